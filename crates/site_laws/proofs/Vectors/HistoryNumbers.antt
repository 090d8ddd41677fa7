-- Where no stamp stands twice and each number is one above what the parents count, numbers count commits.
use Rattle.std.proofs.Common.{◌≡◌, ◌≢◌, ℕ, ◌+◌, ◌-◌, ◌≤◌, ◌<◌, ◌==◌, true, false, List, [], ◌∷◌, refl, sym, ◌∙◌, ap, subst, arith, ⊎_elim}
use Rattle.std.proofs.lemmas.Bool.{cases_lt, cases_eq}
use Rattle.locus_ids.specs.declared.ids.FileId.{FileId}
use Rattle.locus_ids.specs.declared.ids.Stamp.{Stamp}
use Rattle.version_vector.specs.Counters.{part}
use Rattle.commit_graph.specs.declared.history.Version.{Version}
use Rattle.commit_graph.specs.Versions.{same_stamp, is_in}
use Rattle.commit_graph.proofs.Names.{same_stamp_refl, stamp_eq}
use Rattle.conflict_flags.specs.Written.{written, NoneTwice, Numbered, is_made_at, made_at}
use Rattle.conflict_flags.proofs.Ancestors.{Counted, Counts, place, base, in_here, in_older, fresh, false_not_true, same_file_refl}
use Rattle.conflict_flags.proofs.Numbers.{joined_bound, written_low, eq_true, eq_false}

made_test : (file : FileId) (site : ℕ) (v : Version) → v.file ≡ file → is_made_at file site v ≡ (v.stamp.site == site)
made_test file site v e = rw (e, same_file_refl file) refl

pub made_here : (file : FileId) (site : ℕ) (v : Version) → v.file ≡ file → v.stamp.site ≡ site → is_made_at file site v ≡ true
made_here file site v e s = made_test file site v e ∙ eq_true v.stamp.site site s

made_there : (file : FileId) (site : ℕ) (v : Version) → v.file ≡ file → v.stamp.site ≢ site → is_made_at file site v ≡ false
made_there file site v e s = made_test file site v e ∙ eq_false v.stamp.site site s

-- each number up to the count of a site's commits stands in the history
abbrev pub Full : FileId → List Version → Type 0
Full file h = (site k : ℕ) → 1 ≤ k → k ≤ made_at h file site → is_in h file (record { site = site; n = k }) ≡ true

pub record Counting (file : FileId) (h : List Version) : Type 0 where
  pub full : Full file h
  pub numbered : Numbered h

-- the number of a new version
new_number : (file : FileId) (v : Version) (older : List Version) → Counts file v older → Counted file older → NoneTwice (v ∷ older) → Full file older → v.stamp.n ≡ made_at older file v.stamp.site + 1
new_number file v older k c once full =
    let low : 1 ≤ v.stamp.site = k.low in
    let bound : part (base file v older) (place v.stamp) ≤ made_at older file v.stamp.site = joined_bound (written older file) (made_at older file v.stamp.site) (v.stamp.site - 1) (λ p. written_low file older c p v.stamp.site low) v.parents in
    let count : v.stamp.n ≡ part (base file v older) (place v.stamp) + 1 = k.count in
    ⊎_elim
    (λ (e : made_at older file v.stamp.site < v.stamp.n). omega (arith, e, bound, count))
    (λ (e : v.stamp.n ≤ made_at older file v.stamp.site). absurd (false_not_true (fresh file v older k.mine once) (full v.stamp.site v.stamp.n (omega (arith, count)) e)))
    (cases_lt (made_at older file v.stamp.site) v.stamp.n)

new_full : (file : FileId) (v : Version) (older : List Version) → Counts file v older → v.stamp.n ≡ made_at older file v.stamp.site + 1 → Full file older → Full file (v ∷ older)
new_full file v older k n full site j pos le =
    ⊎_elim
    (λ (s : v.stamp.site ≡ site).
    let grows : made_at (v ∷ older) file site ≡ made_at older file site + 1 = rw (made_here file site v k.mine s) refl in
    let same : v.stamp.n ≡ made_at older file site + 1 = n ∙ ap (λ (t : ℕ). made_at older file t + 1) s in
    ⊎_elim
    (λ (e : made_at older file site < j). in_here file v older (record { site = site; n = j }) k.mine (subst (λ (x : Stamp). same_stamp v.stamp x ≡ true) (stamp_eq v.stamp (record { site = site; n = j }) s (omega (arith, same, e, grows, le))) (same_stamp_refl v.stamp)))
    (λ (e : j ≤ made_at older file site). in_older file v older (record { site = site; n = j }) (full site j pos e))
    (cases_lt (made_at older file site) j))
    (λ (s : v.stamp.site ≢ site).
    let stays : made_at (v ∷ older) file site ≡ made_at older file site = rw (made_there file site v k.mine s) refl in
    in_older file v older (record { site = site; n = j }) (full site j pos (omega (arith, stays, le))))
    (cases_eq v.stamp.site site)

none_full : (file : FileId) → Full file []
none_full file site k pos le = absurd (omega (arith, pos, le))

pub counting : (file : FileId) (h : List Version) → Counted file h → NoneTwice h → Counting file h
counting file [] c once = record { full = none_full file; numbered = tt }
counting file (v ∷ older) c once =
    let g : Counting file older = counting file older c.1 once.1 in
    let n : v.stamp.n ≡ made_at older file v.stamp.site + 1 = new_number file v older c.0 c.1 once g.full in
    record { full = new_full file v older c.0 n g.full; numbered = (subst (λ (f : FileId). v.stamp.n ≡ made_at older f v.stamp.site + 1) (sym c.0.mine) n, g.numbered) }
