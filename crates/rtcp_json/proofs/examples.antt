mod AnswerRows
mod PacketRows
mod ToldRows
