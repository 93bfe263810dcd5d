pub mod Coming
pub mod LawfulChains
pub mod Awaited
pub mod OwnResponses
pub mod WorkedChain
pub mod ChainEnds
