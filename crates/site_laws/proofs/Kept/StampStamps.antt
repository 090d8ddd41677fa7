-- Commits by next numbers never give a stamp twice; then a stamp's key has one written vector, whose counters have room.
use Rattle.std.proofs.Common.{◌≡◌, ◌≤◌, ◌<◌, ℕ, zero, suc, ◌+◌, ◌-◌, ◌*◌, max, Bool, true, false, cond, ◌||◌, List, [], ◌∷◌, refl, sym, ◌∙◌, ap, subst, inl, inr, arith}
use Rattle.std.proofs.lemmas.Bool.Decides.{nat_tests}
use Rattle.role_steps.proofs.of_plain_facts.Tests.{both_true, false_true}
use Rattle.locus_ids.specs.declared.ids.FileId.{FileId}
use Rattle.locus_ids.specs.declared.ids.Stamp.{Stamp}
use Rattle.locus_ids.specs.declared.config.Config.{Config}
use Rattle.version_vector.specs.Counters.{part, AllLe}
use Rattle.commit_graph.specs.Versions.{same_file, same_stamp, is_version, is_in}
use Rattle.commit_graph.proofs.Names.{same_stamp_eq, stamp_eq}
use Rattle.conflict_flags.specs.Written.{written, made_at, NoneTwice}
use Rattle.conflict_flags.proofs.Ancestors.{named, Named}
use Rattle.conflict_flags.proofs.Numbers.{written_low}
use Rattle.trace_book.specs.declared.record.Record.{Record}
use Rattle.trace_book.specs.declared.record.Record.TheVariants as says
use Rattle.role_steps.specs.Views.{Told, Shown, stamp_key}
use Rattle.role_steps.specs.Storage.{max_counter}
use Rattle.site_laws.specs.Vectors.Written.{CountsNone, JoinsAll, WrittenAs, NumberedTold, CommitsAreNumbered}
use Rattle.site_laws.specs.Vectors.Facts.{NumberedAll, onto}
use Rattle.site_laws.specs.Vectors.HistoryCommits.{with_record, with_told, commits_of, StampsAreOnce, CommitsAreSited, IsFormatStamp}
use Rattle.site_laws.proofs.Vectors.HistoryNumbers.{Counting, counting}
use Rattle.site_laws.proofs.Vectors.HistoryHistory.{same_file_eq, Stands, Sound, sound, version_made}
use Rattle.site_laws.specs.Kept.StampCommits.{WasMade}
use Rattle.site_laws.specs.Kept.StampCovering.{GoesRecord, Goes, AllGo}
use Rattle.site_laws.proofs.Kept.StampFrames.{Next, next_told}
use Rattle.site_laws.proofs.Kept.StampKeptJoins.{OneVector}

-- ---- what stands in the history was made by its site ----

or_cases : (P : Type 0) (a b : Bool) → (a || b) ≡ true → (a ≡ true → P) → (b ≡ true → P) → P
or_cases P true b h f g = f refl
or_cases P false b h f g = g h

in_record : (file : FileId) (older : List Told) (r : Record) (stamp : Stamp) → NumberedTold older (Shown r) → (is_in (commits_of file older) file stamp ≡ true → WasMade older stamp.site file stamp.n) → is_in (with_record file r (commits_of file older)) file stamp ≡ true → WasMade (Shown r ∷ older) stamp.site file stamp.n
in_record file older (says.Commit g s made parents content) stamp n before h = by_file (same_file g file) refl h
  where
    here : g ≡ file → made ≡ stamp → WasMade (Shown (says.Commit g s made parents content) ∷ older) stamp.site file stamp.n
    here e q = inl (e, sym n.own ∙ ap (λ (x : Stamp). x.site) q, ap (λ (x : Stamp). x.n) q)

    by_file : (b : Bool) → same_file g file ≡ b → is_in (cond b (version_made g s made parents content ∷ commits_of file older) (commits_of file older)) file stamp ≡ true → WasMade (Shown (says.Commit g s made parents content) ∷ older) stamp.site file stamp.n
    by_file true e k = or_cases (WasMade (Shown (says.Commit g s made parents content) ∷ older) stamp.site file stamp.n) (is_version file stamp (version_made g s made parents content)) (is_in (commits_of file older) file stamp) k
        (λ q. here (same_file_eq g file e) (same_stamp_eq made stamp (both_true (same_file g file) (same_stamp made stamp) q).1))
        (λ q. inr (before q))
    by_file false e k = inr (before k)
in_record file older _ stamp n before h = inr (before h)

in_told : (file : FileId) (older : List Told) (x : Told) (stamp : Stamp) → NumberedTold older x → (is_in (commits_of file older) file stamp ≡ true → WasMade older stamp.site file stamp.n) → is_in (with_told file x (commits_of file older)) file stamp ≡ true → WasMade (x ∷ older) stamp.site file stamp.n
in_told file older (Shown r) stamp n before h = in_record file older r stamp n before h
in_told file older _ stamp n before h = inr (before h)

pub in_made : (file : FileId) (past : List Told) (stamp : Stamp) → CommitsAreNumbered past → is_in (commits_of file past) file stamp ≡ true → WasMade past stamp.site file stamp.n
in_made file [] stamp n h = absurd (false_true h)
in_made file (x ∷ older) stamp n h = in_told file older x stamp n.0 (in_made file older stamp n.1) h

-- ---- once ----

less_self : (a b : ℕ) → a < b → b ≡ a → ⊥
less_self a b h e = absurd (omega (arith, h, e))

true_or_false : (b : Bool) (P : Type 0) → (b ≡ true → P) → (b ≡ false → P) → P
true_or_false true P f g = f refl
true_or_false false P f g = g refl

once_record : (c : Config) (past : List Told) (me : ℕ) (file : FileId) (r : Record) → GoesRecord c past me r → NumberedTold past (Shown r) → CommitsAreNumbered past → NoneTwice (commits_of file past) → NoneTwice (with_record file r (commits_of file past))
once_record c past me file (says.Commit g s stamp parents content) k n all once = by_file (same_file g file) refl
  where
    -- an earlier one of this stamp would be of this site, under this number
    none : g ≡ file → is_in (commits_of file past) g stamp ≡ true → ⊥
    none e h =
        let m : WasMade past stamp.site file stamp.n = in_made file past stamp all (subst (λ (o : FileId). is_in (commits_of file past) o stamp ≡ true) e h) in
        let mine : WasMade past me g stamp.n = subst (λ (o : FileId). WasMade past me o stamp.n) (sym e) (subst (λ (t : ℕ). WasMade past t file stamp.n) (n.own ∙ k.0) m) in
        less_self stamp.n stamp.n (k.1.above stamp.n mine) refl

    by_file : (b : Bool) → same_file g file ≡ b → NoneTwice (cond b (version_made g s stamp parents content ∷ commits_of file past) (commits_of file past))
    by_file true e = (true_or_false (is_in (commits_of file past) g stamp) (is_in (commits_of file past) g stamp ≡ false) (λ h. absurd (none (same_file_eq g file e) h)) (λ h. h), once)
    by_file false e = once
once_record c past me file _ k n all once = once

once_told : (c : Config) (past : List Told) (me : ℕ) (file : FileId) (x : Told) → Goes c past me x → NumberedTold past x → CommitsAreNumbered past → NoneTwice (commits_of file past) → NoneTwice (with_told file x (commits_of file past))
once_told c past me file (Shown r) k n all once = once_record c past me file r k n all once
once_told c past me file _ k n all once = once

pub once_after : (c : Config) (me : ℕ) (told past : List Told) → AllGo c past me told → NumberedAll past told → CommitsAreNumbered past → StampsAreOnce past → StampsAreOnce (onto told past)
once_after c me [] past k n all once = once
once_after c me (x ∷ xs) past k n all once = once_after c me xs (x ∷ past) k.1 n.1 (n.0, all) (λ file. once_told c past me file x k.0 n.0 all (once file))

-- ---- the numbers that a counter may have ----

abbrev pub StampsFit : List Told → Type 0
StampsFit past = (s : ℕ) (file : FileId) (n : ℕ) → WasMade past s file n → n ≤ max_counter

fits_one : (c : Config) (past : List Told) (me : ℕ) (x : Told) → Goes c past me x → StampsFit past → StampsFit (x ∷ past)
fits_one c past me x k h s file n (inl m) = let q : Next past me s file n = next_told c past me s file n x k m in subst (λ (i : ℕ). i ≤ max_counter) q.number q.next.fits
fits_one c past me x k h s file n (inr m) = h s file n m

pub fits_after : (c : Config) (me : ℕ) (told past : List Told) → AllGo c past me told → StampsFit past → StampsFit (onto told past)
fits_after c me [] past k h = h
fits_after c me (x ∷ xs) past k h = fits_after c me xs (x ∷ past) k.1 (fits_one c past me x k.0 h)

-- ---- written vectors ----

-- what is known of all commits that were told
pub record Commits (past : List Told) : Type 0 where
  pub numbered : CommitsAreNumbered past
  pub sited : CommitsAreSited past
  pub once : StampsAreOnce past
  pub fit : StampsFit past

sound_of : (past : List Told) (file : FileId) → Commits past → Sound file past
sound_of past file h = sound file past h.numbered h.sited (h.once file)

stamp_fits : (past : List Told) (file : FileId) (a : Stamp) → Commits past → is_in (commits_of file past) file a ≡ true → a.n ≤ max_counter
stamp_fits past file a h e = h.fit a.site file a.n (in_made file past a h.numbered e)

-- how many a site has made has room too
made_low : (past : List Told) (file : FileId) (s : ℕ) → Commits past → made_at (commits_of file past) file s ≤ max_counter
made_low past file s h = by_count (made_at (commits_of file past) file s) refl
  where
    k : Counting file (commits_of file past)
    k = counting file (commits_of file past) (sound_of past file h).counted (h.once file)

    by_count : (m : ℕ) → made_at (commits_of file past) file s ≡ m → m ≤ max_counter
    by_count zero e = omega arith
    by_count (suc m) e = stamp_fits past file (record { site = s; n = suc m }) h (k.full s (suc m) (omega arith) (omega (arith, e)))

written_fits : (past : List Told) (file : FileId) (a : Stamp) (v : List ℕ) (s : ℕ) → Commits past → 1 ≤ s → Stands file (commits_of file past) a v → part v (s - 1) ≤ max_counter
written_fits past file a v s h low (inl q) = let e : part v (s - 1) ≡ 0 = q.1 (s - 1) in omega (arith, e)
written_fits past file a v s h low (inr q) =
    let e : part v (s - 1) ≡ part (written (commits_of file past) file a) (s - 1) = q.1 (s - 1) in
    let b : part (written (commits_of file past) file a) (s - 1) ≤ made_at (commits_of file past) file s = written_low file (commits_of file past) (sound_of past file h).counted a s low in
    let m : made_at (commits_of file past) file s ≤ max_counter = made_low past file s h in
    omega (arith, e, b, m)

max_low : (a b c n : ℕ) → a ≡ max b c → b ≤ n → c ≤ n → a ≤ n
max_low a b c n e h g = grind (arith, nat_tests)

-- so the own counter of a join of written vectors has room
pub joins_low : (past : List Told) (file : FileId) (s : ℕ) → Commits past → 1 ≤ s → (ps : List Stamp) (vector : List ℕ) → JoinsAll (WrittenAs past file) ps vector → part vector (s - 1) ≤ max_counter
joins_low past file s h low [] vector k = let e : part vector (s - 1) ≡ 0 = k (s - 1) in omega (arith, e)
joins_low past file s h low (p ∷ ps) vector k =
    max_low (part vector (s - 1)) (part k.0 (s - 1)) (part k.1 (s - 1)) max_counter (k.4 (s - 1))
    (written_fits past file p k.0 s h low ((sound_of past file h).stands p k.0 k.2))
    (joins_low past file s h low ps k.1 k.3)

-- ---- one vector ----

none_le : (v w : List ℕ) → CountsNone v → AllLe v w
none_le v w h = record { each = λ i. (let e : part v i ≡ 0 = h i in omega (arith, e)) }

keys_differ : (a b : Stamp) → IsFormatStamp a → 1 ≤ b.site → stamp_key a ≡ stamp_key b → ⊥
keys_differ a b h low e = let x : a.site ≡ 0 = h.site in let y : a.n ≡ 0 = h.number in absurd (omega (arith, x, y, low, e))

keys_site : (s t m n : ℕ) → m ≤ 4294967295 → n ≤ 4294967295 → s * 4294967296 + m ≡ t * 4294967296 + n → s ≡ t
keys_site s t m n h g e = omega (arith, h, g, e)

keys_number : (s t m n : ℕ) → m ≤ 4294967295 → n ≤ 4294967295 → s * 4294967296 + m ≡ t * 4294967296 + n → m ≡ n
keys_number s t m n h g e = omega (arith, h, g, e)

one_of : (past : List Told) (file : FileId) (a b : Stamp) (v w : List ℕ) → Commits past → stamp_key a ≡ stamp_key b → Stands file (commits_of file past) a v → Stands file (commits_of file past) b w → AllLe v w
one_of past file a b v w h e (inl p) q = none_le v w p.1
one_of past file a b v w h e (inr p) (inl q) = let name : Named a = named file (commits_of file past) (sound_of past file h).counted a p.0 in absurd (keys_differ b a q.0 name.low (sym e))
one_of past file a b v w h e (inr p) (inr q) = record { each = λ i. le i }
  where
    same : a ≡ b
    same = stamp_eq a b (keys_site a.site b.site a.n b.n (stamp_fits past file a h p.0) (stamp_fits past file b h q.0) e) (keys_number a.site b.site a.n b.n (stamp_fits past file a h p.0) (stamp_fits past file b h q.0) e)

    le : (i : ℕ) → part v i ≤ part w i
    le i =
        let x : part v i ≡ part (written (commits_of file past) file a) i = p.1 i in
        let y : part w i ≡ part (written (commits_of file past) file b) i = q.1 i in
        let z : part (written (commits_of file past) file a) i ≡ part (written (commits_of file past) file b) i = ap (λ (o : Stamp). part (written (commits_of file past) file o) i) same in
        omega (arith, x, y, z)

pub one_vector : (past : List Told) → Commits past → OneVector past
one_vector past h file a b v w e p q = one_of past file a b v w h e ((sound_of past file h).stands a v p) ((sound_of past file h).stands b w q)
