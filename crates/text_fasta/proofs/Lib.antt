-- `LeadingLaws`: how many stand before the first that is not ok, and whether all are. `TestLaws`: the tests. `LineLaws`: letters in lines.
-- `BodyLaws`: a body and its letters. `LinedLaws`: a body line by line. `HeadLaws`: the first line of a record.
-- `LoopLaws`: the loops. `ByTests`: the answers, by each test. `AnswerLaws`: the contracts, as the code meets them. `ProfileLaws`: a record, and
-- what is read of it. `RoundTrip`: both ways. `Refusals`: each refusal by what a record is. `RefusalNumbers`: none is 0. `Determined`: each
-- contract has one outcome. `Ends`: each call ends. `Examples`: worked out.
pub mod LeadingLaws
pub mod TestLaws
pub mod LineLaws
pub mod BodyLaws
pub mod LinedLaws
pub mod HeadLaws
pub mod LoopLaws
pub mod ByTests
pub mod AnswerLaws
pub mod ProfileLaws
pub mod RoundTrip
pub mod Refusals
pub mod RefusalNumbers
pub mod Determined
pub mod Ends
pub mod Examples
