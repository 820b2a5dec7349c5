pub mod DeskLemmas
pub mod GreetingLemmas
pub mod ConnectionLemmas
pub mod RackLemmas
pub mod SendLemmas
