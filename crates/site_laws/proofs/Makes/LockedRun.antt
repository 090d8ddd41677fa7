-- In every run each hold of a file is locked by the earlier ones in its epoch, makes among them.
use Rattle.std.proofs.Common.{◌≡◌, ℕ, true, ◌⊎◌, List, [], ◌∷◌, refl, sym, subst, inl, inr}
use Rattle.locus_ids.specs.declared.ids.EpochId.{EpochId}
use Rattle.locus_ids.specs.declared.ids.FileId.{FileId}
use Rattle.locus_ids.specs.declared.ids.Mode.{Mode}
use Rattle.locus_ids.specs.declared.ids.Mode.TheVariants as mode
use Rattle.locus_ids.specs.declared.config.Config.{Config}
use Rattle.schedule_lines.specs.declared.line.ScheduleLine.{ScheduleLine}
use Rattle.commit_graph.specs.Grants.{is_read}
use Rattle.trace_book.specs.declared.record.Record.{Record}
use Rattle.trace_book.specs.declared.record.Record.TheVariants as says
use Rattle.role_steps.specs.Views.{Told, Shown, Reserves}
use Rattle.the_run.specs.Runs.{run_in}
use Rattle.site_laws.specs.Vectors.Written.{past_of}
use Rattle.site_laws.specs.Locks.Going.{WasReleased}
use Rattle.site_laws.specs.Locks.Grants.{GrantedAs, WasGrantedAs, IsOver, LockedRecord, LockedTold as PlainLocked, GrantsAreLocked}
use Rattle.site_laws.specs.Locks.Locks.{IsOfAFile}
use Rattle.site_laws.proofs.Locks.GrantsRun.{run_grants}
use Rattle.site_laws.specs.Makes.Fresh.{FreshTold, NumbersAreFresh}
use Rattle.site_laws.specs.Makes.Holding.{WasReserved, ApartTold, ReservesAreApart}
use Rattle.site_laws.specs.Makes.Tables.{IsKnown, IsFree, PlainRecord, PlainTold, PlainGrantsAreFree}
use Rattle.site_laws.specs.Makes.Locked.{HeldRecord, HeldAs, WasHeldAs, OverAs, LockedTold, HoldsAreLocked}
use Rattle.site_laws.proofs.Makes.FreshRun.{run_fresh}
use Rattle.site_laws.proofs.Makes.ApartRun.{run_apart}
use Rattle.site_laws.proofs.Makes.MakeRun.{run_free}

-- ---- a hold is a plain grant, or a reserve ----

abbrev IsPlain : List Told → EpochId → ℕ → FileId → Mode → Type 0
IsPlain past e key file m = WasGrantedAs past e key file m × IsOfAFile m

abbrev IsMake : List Told → EpochId → ℕ → FileId → Mode → Type 0
IsMake past e key file m = ((s : ℕ) × WasReserved past s e key file) × (m ≡ mode.Make)

record_split : (e : EpochId) (key : ℕ) (file : FileId) (m : Mode) (r : Record) (older : List Told) → HeldRecord e key file m r → IsPlain (Shown r ∷ older) e key file m ⊎ IsMake (Shown r ∷ older) e key file m
record_split e key file m (says.Grant at call request inst how of stamp ss) older h = inl (inl (h.0, h.1, h.2, h.3), h.4)
record_split e key file m _ older h = absurd h

told_split : (e : EpochId) (key : ℕ) (file : FileId) (m : Mode) (x : Told) (older : List Told) → HeldAs e key file m x → IsPlain (x ∷ older) e key file m ⊎ IsMake (x ∷ older) e key file m
told_split e key file m (Shown r) older h = record_split e key file m r older h
told_split e key file m (Reserves s at inst of) older h = inr ((s, inl (refl, h.0, h.1, h.2)), h.3)
told_split e key file m _ older h = absurd h

later_split : (e : EpochId) (key : ℕ) (file : FileId) (m : Mode) (x : Told) (older : List Told) → IsPlain older e key file m ⊎ IsMake older e key file m → IsPlain (x ∷ older) e key file m ⊎ IsMake (x ∷ older) e key file m
later_split e key file m x older (inl h) = inl (inr h.0, h.1)
later_split e key file m x older (inr h) = inr ((h.0.0, inr h.0.1), h.1)

split : (e : EpochId) (key : ℕ) (file : FileId) (m : Mode) (past : List Told) → WasHeldAs past e key file m → IsPlain past e key file m ⊎ IsMake past e key file m
split e key file m [] h = absurd h
split e key file m (x ∷ older) (inl h) = told_split e key file m x older h
split e key file m (x ∷ older) (inr h) = later_split e key file m x older (split e key file m older h)

-- ---- over ----

plain_over : (past : List Told) (e : EpochId) (j : ℕ) (m : Mode) → IsOfAFile m → IsOver past e j → OverAs past e j m
plain_over past e j mode.Make k h = absurd k
plain_over past e j mode.Read k h = h
plain_over past e j mode.Write k h = h
plain_over past e j mode.Resolve k h = h
plain_over past e j mode.Mend k h = h

make_over : (past : List Told) (e : EpochId) (j : ℕ) (m : Mode) → m ≡ mode.Make → WasReleased past e j → OverAs past e j m
make_over past e j m q h = subst (OverAs past e j) (sym q) h

abbrev Beside : List Told → EpochId → ℕ → Mode → Mode → Type 0
Beside older e j m other = ((is_read m ≡ true) × (is_read other ≡ true)) ⊎ OverAs older e j other

-- ---- a plain grant ----

grant_plain : (older : List Told) (e : EpochId) (file : FileId) (m : Mode) (j : ℕ) (other : Mode) → ((key : ℕ) (n : Mode) → WasGrantedAs older e key file n → IsOfAFile n → ((is_read m ≡ true) × (is_read n ≡ true)) ⊎ IsOver older e key) → IsFree older e file → IsPlain older e j file other ⊎ IsMake older e j file other → Beside older e j m other
grant_plain older e file m j other locked free (inl h) = by_lock (locked j other h.0 h.1)
  where
    by_lock : ((is_read m ≡ true) × (is_read other ≡ true)) ⊎ IsOver older e j → Beside older e j m other
    by_lock (inl both) = inl both
    by_lock (inr over) = inr (plain_over older e j other h.1 over)
grant_plain older e file m j other locked free (inr h) = inr (make_over older e j other h.1 (free h.0.0 j h.0.1))

-- ---- a reserve ----

known_later : (x : Told) (older : List Told) (file : FileId) → IsKnown older file → IsKnown (x ∷ older) file
known_later x older file (inl root) = inl root
known_later x older file (inr committed) = inr (inr committed)

known_record : (e : EpochId) (j : ℕ) (file : FileId) (m : Mode) (r : Record) (older : List Told) → GrantedAs e j file m (Shown r) → IsOfAFile m → PlainRecord older r → IsKnown older file
known_record e j file m (says.Grant at call request inst how of stamp ss) older h plain p = subst (IsKnown older) h.2 (p (subst IsOfAFile (sym h.3) plain)).0
known_record e j file m _ older h plain p = absurd h

known_told : (e : EpochId) (j : ℕ) (file : FileId) (m : Mode) (x : Told) (older : List Told) → GrantedAs e j file m x → IsOfAFile m → PlainTold older x → IsKnown older file
known_told e j file m (Shown r) older h plain p = known_record e j file m r older h plain p
known_told e j file m _ older h plain p = absurd h

-- what was granted plainly is known
pub was_known : (e : EpochId) (j : ℕ) (file : FileId) (m : Mode) (past : List Told) → WasGrantedAs past e j file m → IsOfAFile m → PlainGrantsAreFree past → IsKnown past file
was_known e j file m [] h plain p = absurd h
was_known e j file m (x ∷ older) (inl h) plain p = known_later x older file (known_told e j file m x older h plain p.0)
was_known e j file m (x ∷ older) (inr h) plain p = known_later x older file (was_known e j file m older h plain p.1)

reserve_made : (older : List Told) (e : EpochId) (file : FileId) (m : Mode) (j : ℕ) (other : Mode) → (IsKnown older file → ⊥) → ((t key : ℕ) → WasReserved older t e key file → WasReleased older e key) → PlainGrantsAreFree older → IsPlain older e j file other ⊎ IsMake older e j file other → Beside older e j m other
reserve_made older e file m j other fresh apart plain (inl h) = absurd (fresh (was_known e j file other older h.0 h.1 plain))
reserve_made older e file m j other fresh apart plain (inr h) = inr (make_over older e j other h.1 (apart h.0.0 j h.0.1))

-- ---- what is told ----

at_file : (older : List Told) (P : EpochId → FileId → Type 0) (a e : EpochId) (f g : FileId) → a ≡ e → f ≡ g → P a f → P e g
at_file older P a e f g p q h = subst (P e) q (subst (λ (i : EpochId). P i f) p h)

record_locked : (older : List Told) (r : Record) → LockedRecord older r → PlainRecord older r → (e : EpochId) (key : ℕ) (file : FileId) (m : Mode) → HeldRecord e key file m r → (j : ℕ) (other : Mode) → WasHeldAs older e j file other → Beside older e j m other
record_locked older (says.Grant at call request inst how of stamp ss) l p e key file m h j other k =
    grant_plain older e file m j other (locked (subst IsOfAFile (sym h.3) h.4)) (at_file older (IsFree older) at e of file h.0 h.2 (p (subst IsOfAFile (sym h.3) h.4)).1) (split e j file other older k)
  where
    locked : IsOfAFile how → (i : ℕ) (n : Mode) → WasGrantedAs older e i file n → IsOfAFile n → ((is_read m ≡ true) × (is_read n ≡ true)) ⊎ IsOver older e i
    locked plain i n g made = at_file older (λ (d : EpochId) (o : FileId). WasGrantedAs older d i o n → ((is_read m ≡ true) × (is_read n ≡ true)) ⊎ IsOver older d i) at e of file h.0 h.2 (λ z. subst (λ (x : Mode). ((is_read x ≡ true) × (is_read n ≡ true)) ⊎ IsOver older at i) h.3 (l plain i n z made)) g
record_locked older _ l p e key file m h j other k = absurd h

told_locked : (older : List Told) (x : Told) → PlainLocked older x → PlainTold older x → FreshTold older x → ApartTold older x → PlainGrantsAreFree older → LockedTold older x
told_locked older (Shown r) l p n a plain = record_locked older r l p
told_locked older (Reserves s at inst of) l p n a plain = λ e key file m h j other k. reserve_made older e file m j other (fresh file h.2) (λ t i z. apart e file h.0 h.2 t i z) plain (split e j file other older k)
  where
    fresh : (file : FileId) → of ≡ file → IsKnown older file → ⊥
    fresh file q z = not_one (subst (IsKnown older) (sym q) z)
      where
        not_one : IsKnown older of → ⊥
        not_one (inl root) = n.0 root
        not_one (inr committed) = n.1 committed

    apart : (e : EpochId) (file : FileId) → at ≡ e → of ≡ file → (t i : ℕ) → WasReserved older t e i file → WasReleased older e i
    apart e file p q t i = at_file older (λ (d : EpochId) (o : FileId). WasReserved older t d i o → WasReleased older d i) at e of file p q (a.1 t i)
told_locked older _ l p n a plain = λ e key file m h j other k. absurd h

all_locked : (past : List Told) → GrantsAreLocked past → PlainGrantsAreFree past → NumbersAreFresh past → ReservesAreApart past → HoldsAreLocked past
all_locked [] l p n a = tt
all_locked (x ∷ older) l p n a = (told_locked older x l.0 p.0 n.0 a.0 p.1, all_locked older l.1 p.1 n.1 a.1)

pub run_locked : (c : Config) (lines : List ScheduleLine) → HoldsAreLocked (past_of (run_in c lines).trace)
run_locked c lines =
    let apart : ReservesAreApart (past_of (run_in c lines).trace) = run_apart c lines in
    all_locked (past_of (run_in c lines).trace) (run_grants c lines) (run_free c lines apart) (run_fresh c lines) apart
