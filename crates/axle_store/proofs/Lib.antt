mod Formatting
