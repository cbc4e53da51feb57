pub mod Depth
pub mod Whitened
pub mod Cascaded
pub mod AnswersLemmas
pub mod JoinedLemmas
pub mod WhitensLemmas
pub mod CascadesLemmas
