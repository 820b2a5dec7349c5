pub mod Report
pub mod NoteView
