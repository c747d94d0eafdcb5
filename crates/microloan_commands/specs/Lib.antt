pub mod Printed
pub mod Batch
pub mod Reported
pub mod Sheets
pub mod Traffic
pub mod Served
pub mod Sockets
