pub mod SetProofs
pub mod RequestProofs
pub mod HistoryProofs
pub mod EndProofs
pub mod LawProofs
pub mod AskedProofs
