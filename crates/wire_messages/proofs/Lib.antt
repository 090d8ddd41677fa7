pub mod OpeningLaws
pub mod AnswerLaws
pub mod BodyLaws
pub mod PacketLaws
