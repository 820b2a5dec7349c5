pub mod SiteLemmas
