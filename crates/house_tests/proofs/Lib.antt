mod Shown
mod RecordTexts
mod AnswerTexts
