-- What the calls of a past of texts ask next.
use Rattle.std.proofs.Common.{◌≡◌, true, List}
use Rattle.std.specs.List.{list_all}
use Rattle.locus_ids.specs.declared.config.Config.{Config}
use Rattle.call_rules.specs.declared.answer.Answer.{Answer}
use Rattle.text_laws.specs.CallTexts.Wants.{is_answer, is_mount, is_want}
use Rattle.text_laws.proofs.CallTexts.Scripts.{wants_text}
use Rattle.promises.specs.Past.{Past, CallSoFar, asks, asks_after, is_packed}
use Rattle.text_laws.proofs.TreeTexts.Texts.{CallText}

pub after_text : (c : Config) (p : Past) (k : CallSoFar) (answers : List Answer) → list_all is_mount c.mounts ≡ true → CallText k → list_all is_answer answers ≡ true → is_want (asks_after c p k answers) ≡ true
after_text c p k answers mounts h good = wants_text c.mounts (is_packed c p k) k.free k.process k.words k.begins answers mounts h.free h.words h.begins good

pub asks_text : (c : Config) (p : Past) (k : CallSoFar) → list_all is_mount c.mounts ≡ true → CallText k → is_want (asks c p k) ≡ true
asks_text c p k mounts h = after_text c p k k.answers mounts h h.answers
