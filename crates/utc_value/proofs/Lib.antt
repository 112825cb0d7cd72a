pub mod OctetLemmas
pub mod OctetLaws
