mod Carrying
mod Found
mod Outcomes
mod Rows
mod Stands
