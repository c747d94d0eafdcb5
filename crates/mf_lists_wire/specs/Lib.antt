pub mod Paths
pub mod ListRoutes
pub mod ListRequests
