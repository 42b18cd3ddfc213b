pub mod ByteCourse
