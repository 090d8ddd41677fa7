-- What an audit knows after a record, by what a step said of it.
use Rattle.std.proofs.Common.{ℕ, ◌≡◌, Bool, true, false, ◌&&◌, cond, nat_le, refl, sym, ap, ◌∙◌}
use Rattle.std.proofs.lemmas.Bool.{false≢true}
use Rattle.locus_ids.specs.declared.config.Config.{Config}
use Rattle.trace_book.specs.declared.record.Record.{Record}
use Rattle.promises.specs.Past.{Past}
use Rattle.promises.specs.After.{after}
use Rattle.promises.specs.Rows.{may_follow}
use Rattle.audit_laws.specs.Tidy.Tidy.{IsTidy}
use Rattle.audit_laws.proofs.Tidy.Tidy.{tidy_next}
use Rattle.audit_rules.specs.Meant.{meant}
use Rattle.audit_rules.specs.Consistent.{Audited, audited, Broken}
use Rattle.audit_rules.specs.Turns.{is_in_turn}
use Rattle.audit_tally.specs.declared.standing.Standing.{Standing}
use Rattle.trace_audit.specs.Audits.{Auditing, IsKept, known_so, verdict_of}
use Rattle.trace_audit.specs.Steps.{Judges}
use Rattle.trace_audit.specs.declared.verdict.Verdict.TheVariants as says

first : (a b : Bool) → (a && b) ≡ true → a ≡ true
first true b e = refl
first false b e = e

-- one before the record isn't consistent, or its line is lower
pub passed_over : (c : Config) (sound : Bool) (last line : ℕ) (p : Past) (r : Record) → (sound && nat_le last line) ≡ false → audited c (known_so sound last p) line r ≡ Broken
passed_over c true last line p r e = rw e refl
passed_over c false last line p r e = refl

-- else it is as the step said of it
pub judged : (c : Config) (sound : Bool) (last line : ℕ) (p q : Past) (r : Record) (says : Bool) → (sound && nat_le last line) ≡ true → Judges c p (meant c p r) q says → audited c (known_so sound last p) line r ≡ known_so says line q
judged c true last line p q r true e j = rw (e, sym j.told, j.next refl) refl
judged c true last line p q r false e j = rw (e, sym j.told) refl
judged c false last line p q r says e j = absurd (false≢true e)

-- and what is kept then is tidy
pub kept : (c : Config) (sound : Bool) (last line : ℕ) (p q : Past) (r : Record) (says : Bool) → IsKept sound c p → (sound && nat_le last line) ≡ true → Judges c p (meant c p r) q says → IsKept says c q
kept c sound last line p q r true tidy e j = λ _. rw (j.next refl) (tidy_next c p (meant c p r) (tidy (first sound (nat_le last line) e)) (first (may_follow c p (meant c p r)) (is_in_turn p (meant c p r)) (sym j.told)))
kept c sound last line p q r false tidy e j = λ says. absurd (false≢true says)

-- The audit as it is seen, by what its standing has become.

abbrev auditing : Config → Audited → Auditing
auditing c k = record { config = c; state = k }

pub seen_passed : (c : Config) (sound : Bool) (last line : ℕ) (p : Past) (r : Record) (s : Standing) (old : Auditing) → old ≡ auditing c (known_so sound last p) → (sound && nat_le last line) ≡ false → s ≡ record { last = last; sound = false } →
    auditing c (known_so s.sound s.last p) ≡ auditing old.config (audited old.config old.state line r)
seen_passed c sound last line p r s old e t f = rw (e, f) (ap (auditing c) (sym (passed_over c sound last line p r t)))

pub seen_judged : (c : Config) (sound : Bool) (last line : ℕ) (p q : Past) (r : Record) (yes_or_no : Bool) (s : Standing) (old : Auditing) → old ≡ auditing c (known_so sound last p) → (sound && nat_le last line) ≡ true → Judges c p (meant c p r) q yes_or_no →
    s ≡ record { last = line; sound = yes_or_no } → auditing c (known_so s.sound s.last q) ≡ auditing old.config (audited old.config old.state line r)
seen_judged c sound last line p q r yes_or_no s old e t j f = rw (e, f) (ap (auditing c) (sym (judged c sound last line p q r yes_or_no t j)))

pub kept_none : (c : Config) (last : ℕ) (p : Past) (s : Standing) → s ≡ record { last = last; sound = false } → IsKept s.sound c p
kept_none c last p s f = λ sound. absurd (false≢true (sym (ap (λ (t : Standing). t.sound) f) ∙ sound))

pub says_broken : (last : ℕ) (p : Past) (s : Standing) → s ≡ record { last = last; sound = false } → says.Broken ≡ verdict_of (known_so s.sound s.last p)
says_broken last p s f = rw f refl

pub says_so : (line : ℕ) (q : Past) (b : Bool) (s : Standing) → s ≡ record { last = line; sound = b } → cond b says.Good says.Broken ≡ verdict_of (known_so s.sound s.last q)
says_so line q b s f = rw f (at b)
  where
    at : (b : Bool) → cond b says.Good says.Broken ≡ verdict_of (known_so b line q)
    at true = refl
    at false = refl
