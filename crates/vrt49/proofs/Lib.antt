-- The laws of the calls for C.

-- what a call tells, by its answer
pub mod AnswerLaws
-- the parts of a packet as words
pub mod PartsLaws
-- what a reading as 49A tells
pub mod SurveyLaws
-- the numbers of a packet fit words
pub mod SmallLaws
-- what a reading tells
pub mod ReadingLaws
-- what all readings of a stream tell
pub mod ColumnLaws
-- the number of a refusal that is told where
pub mod NumberLaws
-- what holds of every call
pub mod CallLaws
