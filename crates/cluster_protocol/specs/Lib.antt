pub mod Clusters
pub mod Worlds
pub mod Steps
pub mod Outliving
