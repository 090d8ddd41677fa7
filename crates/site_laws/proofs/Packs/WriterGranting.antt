-- Grants under one key are alike, and grants of one file stand apart.
use Rattle.std.proofs.Common.{◌≡◌, ℕ, ◌⊎◌, true, List, [], ◌∷◌, refl, sym, ◌∙◌, ap, subst, inl, inr}
use Rattle.locus_ids.specs.declared.ids.EpochId.{EpochId}
use Rattle.locus_ids.specs.declared.ids.FileId.{FileId}
use Rattle.locus_ids.specs.declared.ids.Serial.{Serial}
use Rattle.locus_ids.specs.declared.ids.Mode.{Mode}
use Rattle.locus_ids.specs.declared.ids.Mode.TheVariants as mode
use Rattle.locus_ids.specs.declared.sites.Members.{Members}
use Rattle.locus_ids.specs.declared.config.Config.{Config}
use Rattle.commit_graph.specs.Grants.{is_read}
use Rattle.schedule_lines.specs.declared.line.ScheduleLine.{ScheduleLine}
use Rattle.trace_book.specs.declared.record.Record.{Record}
use Rattle.trace_book.specs.declared.record.Record.TheVariants as says
use Rattle.role_steps.specs.Own.{Every}
use Rattle.role_steps.specs.Opens.{mode_of}
use Rattle.role_steps.specs.Views.{Told, Shown, serial_key}
use Rattle.the_run.specs.Worlds.{World}
use Rattle.the_run.specs.Runs.{run_in}
use Rattle.site_laws.specs.Vectors.Written.{past_of, WasTold}
use Rattle.site_laws.specs.Packs.InstanceBook.{Book, AskedBy, IsFor, Sound}
use Rattle.site_laws.specs.Packs.InstanceFacts.{MadeFact, GrantFact, RecordFact, ToldFact, WorldFact, Booked}
use Rattle.site_laws.proofs.Packs.InstanceBooks.{asked_once}
use Rattle.site_laws.proofs.Packs.InstanceInstancesRun.{run_booked}
use Rattle.site_laws.specs.Locks.Locks.{IsOfAFile}
use Rattle.site_laws.specs.Locks.Grants.{GrantedAsRecord, GrantedAs, WasGrantedAs, IsOver, LockedRecord, LockedTold, GrantsAreLocked}
use Rattle.site_laws.proofs.Locks.Facts.{one_later}
use Rattle.site_laws.proofs.Locks.GrantTold.{over_later}
use Rattle.site_laws.proofs.Locks.GrantsRun.{run_grants}
use Rattle.site_laws.specs.Packs.WriterGranting.{GrantsAreAlike, GrantsAreApart}

-- ---- alike ----

pub told_found : (P Q : Told → Type 0) (xs : List Told) → Every P xs → WasTold Q xs → (x : Told) × P x × Q x
told_found P Q [] h k = absurd k
told_found P Q (x ∷ xs) h (inl k) = (x, h.0, k)
told_found P Q (x ∷ xs) h (inr k) = told_found P Q xs h.1 k

-- what the book has of a grant
pub record GrantNoted (book : Book) (e : EpochId) (key : ℕ) (file : FileId) (m : Mode) : Type 0 where
  pub inst : Serial
  pub key_is : serial_key inst ≡ key
  pub fact : GrantFact book e inst m file

record_noted : (book : Book) (e : EpochId) (key : ℕ) (file : FileId) (m : Mode) (r : Record) → RecordFact book r → GrantedAsRecord e key file m r → GrantNoted book e key file m
record_noted book e key file m (says.Grant at call request inst n of stamp ss) h k =
    record { inst = inst; key_is = k.1; fact = subst (λ (x : Mode). GrantFact book e inst x file) k.3 (subst (λ (g : FileId). GrantFact book e inst n g) k.2 (subst (λ (i : EpochId). GrantFact book i inst n of) k.0 h.0)) }
record_noted book e key file m _ h k = absurd k

told_noted : (book : Book) (e : EpochId) (key : ℕ) (file : FileId) (m : Mode) (x : Told) → ToldFact book x → GrantedAs e key file m x → GrantNoted book e key file m
told_noted book e key file m (Shown r) h k = record_noted book e key file m r h k
told_noted book e key file m _ h k = absurd k

pub grant_noted : (c : Config) (w : World) (g : Booked c w) (e : EpochId) (key : ℕ) (file : FileId) (m : Mode) → WasGrantedAs (past_of w.trace) e key file m → GrantNoted g.0 e key file m
grant_noted c w g e key file m h =
    let f : WorldFact c g.0 w = g.1 in
    let k : (x : Told) × ToldFact g.0 x × GrantedAs e key file m x = told_found (ToldFact g.0) (GrantedAs e key file m) (past_of w.trace) f.told h in
    told_noted g.0 e key file m k.0 k.1 k.2

-- a file that is for the same open as another is that file, but for a make
same_for : (m : Mode) (a b asked : FileId) → (m ≡ mode.Make → a ≡ b) → IsFor m a asked → IsFor m b asked → a ≡ b
same_for mode.Make a b asked make h k = make refl
same_for mode.Read a b asked make h k = h ∙ sym k
same_for mode.Write a b asked make h k = h ∙ sym k
same_for mode.Resolve a b asked make h k = h ∙ sym k
same_for mode.Mend a b asked make h k = h ∙ sym k

alike : (c : Config) (book : Book) (e : EpochId) (key : ℕ) (f g : FileId) (m n : Mode) → Sound c book → GrantNoted book e key f m → GrantNoted book e key g n → (f ≡ g) × (m ≡ n)
alike c book e key f g m n s p q =
    let a : GrantFact book e p.inst m f = p.fact in
    let b : GrantFact book e q.inst n g = q.fact in
    let keys : serial_key p.inst ≡ serial_key q.inst = p.key_is ∙ sym q.key_is in
    let members : a.members ≡ b.members = s.once.listed e a.members b.members a.listed b.listed in
    let same : (a.file_asked ≡ b.file_asked) × (a.how ≡ b.how) = asked_once c book b.members p.inst q.inst a.file_asked b.file_asked a.how b.how s keys (subst (λ (x : Members). AskedBy book x p.inst a.file_asked a.how) members a.asked) b.asked in
    let modes : m ≡ n = sym a.mode_is ∙ (ap mode_of same.1 ∙ b.mode_is) in
    (same_for n f g b.file_asked (λ make. made make (subst (MadeFact book e p.inst f) (modes ∙ make) a.made) (subst (MadeFact book e q.inst g) make b.made) keys) (subst (λ (x : FileId). IsFor n f x) same.0 (subst (λ (x : Mode). IsFor x f a.file_asked) modes a.is_for)) b.is_for, modes)
  where
    made : n ≡ mode.Make → MadeFact book e p.inst f mode.Make → MadeFact book e q.inst g mode.Make → serial_key p.inst ≡ serial_key q.inst → f ≡ g
    made make x y keys = s.once.began e x.2 y.2 x.0 x.1 y.0 y.1 f g (x.3 ∙ (keys ∙ sym y.3)) x.4 y.4

pub run_alike : (c : Config) (lines : List ScheduleLine) → GrantsAreAlike (past_of (run_in c lines).trace)
run_alike c lines e key f g m n a b =
    let w : World = run_in c lines in
    let k : Booked c w = run_booked c lines in
    let world : WorldFact c k.0 w = k.1 in
    alike c k.0 e key f g m n world.sound (grant_noted c w k e key f m a) (grant_noted c w k e key g n b)

-- ---- apart ----

abbrev Side : List Told → EpochId → ℕ → ℕ → Mode → Mode → Type 0
Side past e j k m n = ((is_read m ≡ true) × (is_read n ≡ true)) ⊎ (IsOver past e j ⊎ IsOver past e k)

key_record : (e : EpochId) (j k : ℕ) (f g : FileId) (m n : Mode) (r : Record) → GrantedAsRecord e j f m r → GrantedAsRecord e k g n r → j ≡ k
key_record e j k f g m n (says.Grant at call request inst o of stamp ss) a b = sym a.1 ∙ b.1
key_record e j k f g m n _ a b = absurd a

key_told : (e : EpochId) (j k : ℕ) (f g : FileId) (m n : Mode) (x : Told) → GrantedAs e j f m x → GrantedAs e k g n x → j ≡ k
key_told e j k f g m n (Shown r) a b = key_record e j k f g m n r a b
key_told e j k f g m n _ a b = absurd a

locked_record : (older : List Told) (e : EpochId) (j k : ℕ) (file : FileId) (m n : Mode) (r : Record) → LockedRecord older r → GrantedAsRecord e j file m r → IsOfAFile m → IsOfAFile n → WasGrantedAs older e k file n → ((is_read m ≡ true) × (is_read n ≡ true)) ⊎ IsOver older e k
locked_record older e j k file m n (says.Grant at call request inst o of stamp ss) h a im other b =
    subst (λ (x : Mode). ((is_read x ≡ true) × (is_read n ≡ true)) ⊎ IsOver older e k) a.3
    (subst (λ (i : EpochId). ((is_read o ≡ true) × (is_read n ≡ true)) ⊎ IsOver older i k) a.0
    (h (subst IsOfAFile (sym a.3) im) k n (subst (λ (f : FileId). WasGrantedAs older at k f n) (sym a.2) (subst (λ (i : EpochId). WasGrantedAs older i k file n) (sym a.0) b)) other))
locked_record older e j k file m n _ h a im other b = absurd a

locked_told : (older : List Told) (e : EpochId) (j k : ℕ) (file : FileId) (m n : Mode) (x : Told) → LockedTold older x → GrantedAs e j file m x → IsOfAFile m → IsOfAFile n → WasGrantedAs older e k file n → ((is_read m ≡ true) × (is_read n ≡ true)) ⊎ IsOver older e k
locked_told older e j k file m n (Shown r) h a im other b = locked_record older e j k file m n r h a im other b
locked_told older e j k file m n _ h a im other b = absurd a

pub apart : (past : List Told) → GrantsAreLocked past → GrantsAreApart past
apart [] h e file j k m n ne im other a b = absurd a
apart (x ∷ older) h e file j k m n ne im other a b = by_head (apart older h.1 e file j k m n ne im other) a b
  where
    second : ((is_read m ≡ true) × (is_read n ≡ true)) ⊎ IsOver older e k → Side (x ∷ older) e j k m n
    second (inl r) = inl r
    second (inr o) = inr (inr (over_later older (x ∷ older) (one_later x older) e k o))

    first : ((is_read n ≡ true) × (is_read m ≡ true)) ⊎ IsOver older e j → Side (x ∷ older) e j k m n
    first (inl r) = inl (r.1, r.0)
    first (inr o) = inr (inl (over_later older (x ∷ older) (one_later x older) e j o))

    both : Side older e j k m n → Side (x ∷ older) e j k m n
    both (inl r) = inl r
    both (inr (inl o)) = first (inr o)
    both (inr (inr o)) = second (inr o)

    by_head : (WasGrantedAs older e j file m → WasGrantedAs older e k file n → Side older e j k m n) → WasGrantedAs (x ∷ older) e j file m → WasGrantedAs (x ∷ older) e k file n → Side (x ∷ older) e j k m n
    by_head before (inl p) (inl q) = absurd (ne (key_told e j k file file m n x p q))
    by_head before (inl p) (inr q) = second (locked_told older e j k file m n x h.0 p im other q)
    by_head before (inr p) (inl q) = first (locked_told older e k j file n m x h.0 q other im p)
    by_head before (inr p) (inr q) = both (before p q)

pub run_apart : (c : Config) (lines : List ScheduleLine) → GrantsAreApart (past_of (run_in c lines).trace)
run_apart c lines = apart (past_of (run_in c lines).trace) (run_grants c lines)
