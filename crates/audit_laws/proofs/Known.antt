-- What an audit knows of a trace of which each record may follow those before it, as it is read of its text.
use Rattle.std.proofs.Common.{◌≡◌, ℕ, true, List, [], ◌∷◌, ◌++◌, refl, ap, ◌∙◌}
use Rattle.std.specs.Prelude.{fold, map, nat_le, reverse}
use Rattle.locus_ids.specs.declared.config.Config.{Config}
use Rattle.trace_book.specs.declared.entry.Entry.{Entry}
use Rattle.trace_book.specs.declared.record.Record.{Record}
use Rattle.tree_model.specs.Folds.{Trace, last_line}
use Rattle.record_reading.specs.AsRead.{as_read}
use Rattle.promises.specs.Past.{Past}
use Rattle.promises.specs.After.{after}
use Rattle.promises.specs.Rows.{may_follow}
use Rattle.past_laws.specs.Agreement.{past}
use Rattle.past_laws.specs.Along.{EachComesSo, IsNamed}
use Rattle.past_laws.proofs.Agreeing.{all_agrees, may_follow_all, reverse_more}
use Rattle.past_laws.proofs.Names.{both}
use Rattle.audit_rules.specs.Consistent.{Audited, Sound, audited, is_consistent, may_stand, nothing_audited}
use Rattle.audit_rules.specs.Turns.{is_in_turn}
use Rattle.audit_rules.specs.Meant.{meant}
use Rattle.audit_laws.specs.Reading.{EachInTurn, LinesRise, audited_all, entry_as_read}
use Rattle.audit_laws.proofs.Meanings.{AreNamedOnce, meant_as_read}

sound_next : (c : Config) (last : ℕ) (p : Past) (n : ℕ) (w : Record) → AreNamedOnce p → nat_le last n ≡ true → may_follow c p w ≡ true → is_in_turn p w ≡ true → audited c (Sound last p) n (as_read w) ≡ Sound n (after c w p)
sound_next c last p n w once low may turn =
    let same : meant c p (as_read w) ≡ w = meant_as_read c p w once may in
    let passes : is_consistent c p last n (as_read w) ≡ true = both (nat_le last n) _ low (ap (may_stand c p) same ∙ both (may_follow c p w) (is_in_turn p w) may turn) in
    rw passes (ap (λ (x : Record). Sound n (after c x p)) same)

pub fold_last : {X Y : Type 0} (f : Y → X → Y) (xs : List X) (y : Y) (x : X) → fold f y (xs ++ x ∷ []) ≡ f (fold f y xs) x
fold_last f [] y x = refl
fold_last f (z ∷ xs) y x = fold_last f xs (f y z) x

map_last : {X Y : Type 0} (f : X → Y) (xs : List X) (x : X) → map f (xs ++ x ∷ []) ≡ map f xs ++ f x ∷ []
map_last f [] x = refl
map_last f (z ∷ xs) x = ap (λ ys. f z ∷ ys) (map_last f xs x)

read_last : (c : Config) (entries : List Entry) (r : Entry) → audited_all c (map entry_as_read (entries ++ r ∷ [])) ≡ audited c (audited_all c (map entry_as_read entries)) r.line (as_read r.what)
read_last c entries r = ap (audited_all c) (map_last entry_as_read entries r) ∙ fold_last (λ (known : Audited) (e : Entry). audited c known e.line e.what) (map entry_as_read entries) (nothing_audited c) (entry_as_read r)

-- all that the records tell is known
pub all_known : (c : Config) → IsNamed c → (trace : Trace) → EachComesSo c trace → LinesRise trace → EachInTurn c trace → audited_all c (map entry_as_read (reverse trace)) ≡ Sound (last_line trace) (past c trace)
all_known c named [] k rise turns = refl
all_known c named (r ∷ before) k rise turns =
    ap (λ (es : List Entry). audited_all c (map entry_as_read es)) (reverse_more r before)
    ∙ (read_last c (reverse before) r
    ∙ (ap (λ (known : Audited). audited c known r.line (as_read r.what)) (all_known c named before k.1 rise.1 turns.1)
    ∙ sound_next c (last_line before) (past c before) r.line r.what (all_agrees c named before k.1).calls.once rise.0 (may_follow_all c named r before k) turns.0))
