pub mod Accounts
pub mod AccountView
pub mod Scenes
pub mod SceneView
pub mod Openings
pub mod Headline
pub mod Draining
pub mod Toil
