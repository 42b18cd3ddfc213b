pub mod ByteCourse
pub mod ByteDemand3
