-- The laws that the proofs stand on: bytes that are put one part after the other (Put); the call's answer, question by question, and the buffer that an
-- accepted one leaves (Late).
pub mod Late
pub mod Put
