-- Which rows of opens may be open side by side: rows that come, and rows that take the place of others.
use Rattle.std.proofs.Common.{◌≡◌, ℕ, ◌==◌, Bool, true, false, not, ◌&&◌, cond, List, [], ◌∷◌, filter, map, Option, Some, None, refl, sym, ◌∙◌, subst}
use Rattle.run_laws.proofs.of_plain_facts.Options.{none_some}
use Rattle.run_laws.proofs.of_plain_facts.Tests.{and_true, false_true}
use Rattle.locus_ids.specs.declared.ids.FileId.{FileId}
use Rattle.locus_ids.specs.declared.ids.Mode.{Mode}
use Rattle.locus_ids.specs.declared.ids.Mode.TheVariants as mode
use Rattle.locus_ids.specs.declared.ids.Stamp.{Stamp}
use Rattle.locus_ids.specs.declared.refusal.Refusal.{Refusal}
use Rattle.locus_ids.specs.declared.refusal.Refusal.TheVariants as refusal
use Rattle.commit_graph.specs.Versions.{same_file}
use Rattle.commit_graph.specs.Grants.{Opener, is_read, excludes, excluder, grant_refusal}
use Rattle.wire_messages.specs.declared.body.Opening.{Opening}
use Rattle.wire_messages.specs.declared.body.Opening.TheVariants as how
use Rattle.role_steps.specs.Own.{Every}
use Rattle.role_steps.specs.Tables.{row, with_latest}
use Rattle.role_steps.specs.Views.{Frame}
use Rattle.role_steps.specs.Versions.{kept, stamps_of, file_row}
use Rattle.role_steps.specs.Opens.{OpenRequest, Decision, Denies, Grants, mode_of, is_open_stage, is_open_on, opener_of, openers, decision, file_decision, unless_refused, grant_on, granted_row, numbered_file, open_key}
use Rattle.role_steps.specs.declared.synchronizing.SyncTable.{SyncTable}
use Rattle.role_steps.specs.declared.synchronizing.FileRow.{FileRow}
use Rattle.role_steps.specs.declared.synchronizing.OpenRow.{OpenRow}
use Rattle.the_run.proofs.Boots.{every_weaker}
use Rattle.the_run.proofs.InsideSync.{Found, row_found}
use Rattle.site_laws.proofs.Vectors.SyncFacts.{every_latest}
use Rattle.site_laws.specs.Locks.Locks.{IsOfAFile, Apart, AllApart}

-- ---- locks ----

pub some_eq : {A : Type 0} (x y : A) → Some x ≡ Some y → x ≡ y
some_eq x y e = cc

-- an open row of the file only reads, as the mode does
abbrev pub ReadsBeside : Mode → FileId → OpenRow → Type 0
ReadsBeside m file q = IsOfAFile m → is_open_on file q ≡ true → (is_read m ≡ true) × (is_read q.mode ≡ true)

pub reads_both : (a b : Bool) → not (a && b) ≡ false → (a ≡ true) × (b ≡ true)
reads_both true true h = (refl, refl)
reads_both true false h = absurd (cc)
reads_both false true h = absurd (cc)
reads_both false false h = absurd (cc)

pub excluder_step : (x : Bool) (o : Opener) (rest : Option Opener) → cond x (Some o) rest ≡ None → (x ≡ false) × (rest ≡ None)
excluder_step true o rest h = absurd (none_some o (sym h))
excluder_step false o rest h = (refl, h)

pub beside : (m : Mode) (file : FileId) (rs : List OpenRow) → excluder m (map opener_of (filter (is_open_on file) rs)) ≡ None → Every (ReadsBeside m file) rs
beside m file [] h = tt
beside m file (q ∷ qs) h = let k : ReadsBeside m file q × (excluder m (map opener_of (filter (is_open_on file) qs)) ≡ None) = one (is_open_on file q) refl h in (k.0, beside m file qs k.1)
  where
    one : (b : Bool) → is_open_on file q ≡ b → excluder m (map opener_of (cond b (q ∷ filter (is_open_on file) qs) (filter (is_open_on file) qs))) ≡ None → ReadsBeside m file q × (excluder m (map opener_of (filter (is_open_on file) qs)) ≡ None)
    one true e g = let s : (excludes m (opener_of q) ≡ false) × (excluder m (map opener_of (filter (is_open_on file) qs)) ≡ None) = excluder_step (excludes m (opener_of q)) (opener_of q) _ g in ((λ it is_open. reads_both (is_read m) (is_read q.mode) s.0), s.1)
    one false e g = ((λ it is_open. absurd (false_true (sym e ∙ is_open))), g)

pub none_excludes : (m : Mode) (os : List Opener) (stamps : List Stamp) → grant_refusal m os stamps ≡ None → excluder m os ≡ None
none_excludes m os stamps = by_excluder (excluder m os) refl
  where
    by_excluder : (o : Option Opener) → excluder m os ≡ o → grant_refusal m os stamps ≡ None → excluder m os ≡ None
    by_excluder None e h = e
    by_excluder (Some o) e h = absurd (none_some (refusal.Busy o.site o.process) (sym (busy o e ∙ h)))
      where
        busy : (o : Opener) → excluder m os ≡ Some o → Some (refusal.Busy o.site o.process) ≡ grant_refusal m os stamps
        busy o e = rw e refl

-- what a decision to grant knows of the open rows
abbrev pub ApartDecision : SyncTable → OpenRequest → Decision → Type 0
ApartDecision t o (Denies why) = Unit {0}
ApartDecision t o (Grants ss stamp vector parents set k) = Every (ReadsBeside (mode_of o.how) o.file) t.opens

pub apart_if : (t : SyncTable) (o : OpenRequest) (d : Decision) → Every (ReadsBeside (mode_of o.how) o.file) t.opens → ApartDecision t o d
apart_if t o (Denies why) h = tt
apart_if t o (Grants ss stamp vector parents set k) h = h

pub unless_apart : (f : Frame) (t : SyncTable) (us : ℕ) (o : OpenRequest) (known : Option FileRow) (why : Option Refusal) → (why ≡ None → Every (ReadsBeside (mode_of o.how) o.file) t.opens) → ApartDecision t o (unless_refused f us o known why)
unless_apart f t us o known (Some why) h = tt
unless_apart f t us o None None h = tt
unless_apart f t us o (Some r) None h = apart_if t o (grant_on f us r (kept (Some r)) o.how) (h refl)

pub file_apart : (f : Frame) (t : SyncTable) (us : ℕ) (o : OpenRequest) → ApartDecision t o (file_decision f t us o)
file_apart f t us o = unless_apart f t us o (file_row t o.file.ino) _ (λ e. beside (mode_of o.how) o.file t.opens (none_excludes (mode_of o.how) (openers t o.file) (stamps_of (kept (file_row t o.file.ino))) e))

pub makes_apart : (o : OpenRequest) (m : Mode) (file : FileId) (rs : List OpenRow) → (IsOfAFile m → ⊥) → Every (ReadsBeside m file) rs
makes_apart o m file [] h = tt
makes_apart o m file (q ∷ qs) h = ((λ it is_open. absurd (h it)), makes_apart o m file qs h)

pub decision_apart : (f : Frame) (t : SyncTable) (us : ℕ) (o : OpenRequest) (x : Opening) → o.how ≡ x → ApartDecision t o (decision f t us o x)
decision_apart f t us o (how.Make set k) e = apart_if t o _ (makes_apart o (mode_of o.how) o.file t.opens (λ it. subst (λ (y : Opening). IsOfAFile (mode_of y)) e it))
decision_apart f t us o how.Read e = file_apart f t us o
decision_apart f t us o how.Write e = file_apart f t us o
decision_apart f t us o (how.Resolve site) e = file_apart f t us o
decision_apart f t us o how.Mend e = file_apart f t us o

-- a row that comes
pub new_apart : (new : OpenRow) (rs : List OpenRow) → row open_key (open_key new) rs ≡ None → Every (λ (q : OpenRow). Apart q new) rs → AllApart rs → AllApart (with_latest open_key new rs)
new_apart new [] e h g = (tt, tt)
new_apart new (q ∷ qs) e h g =
    (elim (open_key q == open_key new) as (λ b. ◌≡◌ {A = Option OpenRow} (elim b [ true ↦ Some q | false ↦ row open_key (open_key new) qs ]) None → AllApart (elim b [ true ↦ new ∷ qs | false ↦ q ∷ with_latest open_key new qs ])) [
      | true ↦ λ k. absurd (none_some q (sym k))
      | false ↦ λ k. (every_latest (Apart q) open_key new qs h.0 g.0, new_apart new qs k h.1 g.1)
    ]) e

-- a row that takes the place of another, apart from whatever that was apart from
pub record Looser (r new : OpenRow) : Type 0 where
  pub before : (q : OpenRow) → Apart q r → Apart q new
  pub after : (q : OpenRow) → Apart r q → Apart new q

pub found_some : {A : Type 0} (P : A → Type 0) (o : Option A) (x : A) → Found P o → o ≡ Some x → P x
found_some P o x h e = subst (Found P) e h

pub put_apart : (r new : OpenRow) (rs : List OpenRow) → row open_key (open_key new) rs ≡ Some r → Looser r new → AllApart rs → AllApart (with_latest open_key new rs)
put_apart r new [] e l g = absurd (none_some r e)
put_apart r new (q ∷ qs) e l g =
    (elim (open_key q == open_key new) as (λ b. ◌≡◌ {A = Option OpenRow} (elim b [ true ↦ Some q | false ↦ row open_key (open_key new) qs ]) (Some r) → AllApart (elim b [ true ↦ new ∷ qs | false ↦ q ∷ with_latest open_key new qs ])) [
      | true ↦ λ k. (every_weaker (Apart q) (Apart new) qs (λ (x : OpenRow). λ a. l.after x (subst (λ (y : OpenRow). Apart y x) (some_eq q r k) a)) g.0, g.1)
      | false ↦ λ k. (every_latest (Apart q) open_key new qs (l.before q (found_some (Apart q) (row open_key (open_key new) qs) r (row_found (Apart q) open_key (open_key new) qs g.0) k)) g.0, put_apart r new qs k l g.1)
    ]) e

-- one that isn't open
pub shut_apart : (q new : OpenRow) → is_open_stage new.stage ≡ false → Apart q new × Apart new q
shut_apart q new e = ((λ a b c d s. absurd (false_true (sym e ∙ d))), (λ a b c d s. absurd (false_true (sym e ∙ c))))

pub shut_looser : (r new : OpenRow) → is_open_stage new.stage ≡ false → Looser r new
shut_looser r new e = record { before = λ q a. (shut_apart q new e).0; after = λ q a. (shut_apart q new e).1 }

pub all_shut_apart : (new : OpenRow) (rs : List OpenRow) → is_open_stage new.stage ≡ false → Every (λ (q : OpenRow). Apart q new) rs
all_shut_apart new [] e = tt
all_shut_apart new (q ∷ qs) e = ((shut_apart q new e).0, all_shut_apart new qs e)

-- one that is granted beside what only reads
pub asked_apart : (new : OpenRow) (rs : List OpenRow) → Every (ReadsBeside new.mode new.file) rs → Every (λ (q : OpenRow). Apart q new) rs
asked_apart new [] h = tt
asked_apart new (q ∷ qs) h = ((λ a b c d s. (let k : (is_read new.mode ≡ true) × (is_read q.mode ≡ true) = h.0 b (and_true (same_file q.file new.file) (is_open_stage q.stage) s c) in (k.1, k.0))), asked_apart new qs h.1)

pub same_numbered : (m : Mode) (file : FileId) (ino : ℕ) → IsOfAFile m → numbered_file m file ino ≡ file
same_numbered mode.Make file ino h = absurd h
same_numbered mode.Read file ino h = refl
same_numbered mode.Write file ino h = refl
same_numbered mode.Resolve file ino h = refl
same_numbered mode.Mend file ino h = refl

pub granted_looser : (r : OpenRow) (ino size : ℕ) → is_open_stage r.stage ≡ true → Looser r (granted_row r ino size)
granted_looser r ino size is_open = record {
  before = λ q h a b c d s. h a b c is_open (subst (λ (file : FileId). same_file q.file file ≡ true) (same_numbered r.mode r.file ino b) s);
  after = λ q h a b c d s. h a b is_open d (subst (λ (file : FileId). same_file file q.file ≡ true) (same_numbered r.mode r.file ino a) s);
}
