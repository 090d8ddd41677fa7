use Rattle.audit_laws.proofs.Inputs.{answered_yes}
use Rattle.audit_laws.proofs.answers.sound_traces_are_answered_yes.Goals as goal

pub returns : goal.returns
returns c = λ lines trace order whole texts sound.
    answered_yes (record { text = c.texts_tell_records.ensures.text; formed = c.texts_tell_records.ensures.formed; one = c.texts_tell_records.ensures.one }) lines trace order whole texts sound
