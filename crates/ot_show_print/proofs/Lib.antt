pub mod WordLemmas
pub mod ValueLemmas
pub mod SectionLemmas
pub mod ClauseLemmas
pub mod GroupLemmas
pub mod WriteLemmas
pub mod WaitLemmas
pub mod StatementLemmas
