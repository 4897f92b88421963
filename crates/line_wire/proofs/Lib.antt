-- ---- lines: how the bytes at hand are cut

pub mod NextCountedLine
pub mod FromTurnToTurn
pub mod PassedBytes
pub mod BufferRanges
pub mod FirstFeed
-- ---- requests: what a line asks

pub mod AnsweredLines
pub mod Texts
pub mod KnownKeys
pub mod PlainMembers
pub mod PlainObjects
pub mod PlainLines
pub mod FoundColumns
-- ---- replies: what a line tells

pub mod OneReply
pub mod NoOtherForm
pub mod ReplyParts
pub mod Commas
pub mod Averages
-- ---- lists: numbers with commas between them

pub mod NumbersSoFar
