use Rattle.std.proofs.Common.{◌≡◌, ℕ, List, ◌++◌, OnOk, ap, ◌∙◌, append_assoc}
use Rattle.std.specs.Prelude.{Result, Ok, Err, codes}
use Rattle.trace_book.specs.Text.{epoch_text, members_text, number}
use Rattle.trace_text.proofs.site_records.push_join.Goals as goal

-- the last of six pieces, where it can be added, ends the text
last_of_six : {A E : Type 0} (r : Result A E) (old a b c d e f sofar new : List ℕ) → sofar ≡ old ++ a ++ b ++ c ++ d ++ e → OnOk r (new ≡ sofar ++ f) → OnOk r (new ≡ old ++ (a ++ b ++ c ++ d ++ e ++ f))
last_of_six (Ok x) old a b c d e f sofar new before now = now ∙ ap (λ z. z ++ f) before ∙ search append_assoc
last_of_six (Err x) old a b c d e f sofar new before now = tt

pub returns : goal.returns
returns c = last_of_six
    c.push_members.result
    c.args.out.now
    (codes "join ")
    (number c.args.site)
    (codes " ")
    (epoch_text c.args.epoch)
    (codes " ")
    (members_text c.args.members.now)
    c.append-3.new.self
    c.push_members.new.out
    (c.in_ok-append-3.ensures.ok ∙ ap (λ z. z ++ codes " ") (c.in_ok-push_epoch.ensures ∙ ap (λ z. z ++ epoch_text c.args.epoch) (c.in_ok-append-2.ensures.ok ∙ ap (λ z. z ++ codes " ") (c.in_ok-push_number.ensures ∙ ap (λ n. c.append.new.self ++ number n) c.from.ensures ∙ ap (λ z. z ++ number c.args.site) c.in_ok-append.ensures.ok))))
    c.push_members.ensures
