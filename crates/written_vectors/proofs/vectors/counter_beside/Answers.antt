use Rattle.std.proofs.Common.{◌≡◌, ◌<◌, ℕ, ◌+◌, ◌∙◌, List, ap, sym, true, false, cond, ◌==◌, arith, length, reverse}
use Rattle.std.proofs.lemmas.List.{length-reverse}
use Rattle.locus_ids.specs.declared.ids.FileId.{FileId}
use Rattle.locus_ids.specs.declared.ids.Stamp.{Stamp}
use Rattle.commit_graph.specs.declared.history.Version.{Version}
use Rattle.commit_graph.specs.Versions.{same_file}
use Rattle.commit_graph.specs.Counters.{counter, greatest}
use Rattle.written_vectors.specs.Counting.{counter_in, counter_on, counters_of}
use Rattle.written_vectors.proofs.Counted.{greatest_counted, greatest_below}
use Rattle.written_vectors.proofs.vectors.counter_beside.Goals as goal

nat_eq-same : (n : ℕ) → (n == n) ≡ true
nat_eq-same n = grind arith

nat_eq-other : (n m : ℕ) → (n ≡ m → ⊥) → (n == m) ≡ false
nat_eq-other n m other = grind (arith, other)

most_is : (file : FileId) (site most : ℕ) (h : List Version) (counters : List ℕ) (slice parents : List Stamp) → most ≡ greatest (counter_in counters h file) slice → slice ≡ parents
    → counters ≡ counters_of file site h → most ≡ greatest (λ p. counter h file p site) parents
most_is file site most h counters slice parents m s e = m ∙ ap (greatest (counter_in counters h file)) s ∙ greatest_counted file site h counters parents e

most_below : (file : FileId) (site most : ℕ) (older : List Version) (parents : List Stamp) → length older < 4294967295 → most ≡ greatest (λ p. counter (reverse older) file p site) parents → most + 1 < 4294967296
most_below file site most older parents few is =
    let below = greatest_below file site (reverse older) parents in
    let long : length (reverse older) ≡ length older = length-reverse older in
    omega (arith, below, long, is, few)

pub overflow_add-result : goal.overflow_add-result
overflow_add-result c =
    let below : c.greatest-most.result + 1 < 4294967296 = most_below c.args.file c.args.site c.greatest-most.result c.args.older.now c.args.version.now.parents c.requires.few
    (most_is c.args.file c.args.site c.greatest-most.result (reverse c.args.older.now) (reverse c.args.counters.now) c.as_slice.result.now c.args.version.now.parents c.greatest-most.ensures c.as_slice.ensures c.requires.before) in
    omega (arith, below)

counter_there : (older : List Version) (file : FileId) (site most : ℕ) (v : Version) → most ≡ greatest (λ p. counter older file p site) v.parents → true ≡ same_file v.file file → v.site ≡ site
    → most + 1 ≡ cond (same_file v.file file) (counter_on older file site v) 0
counter_there older file site most v m own here = rw (sym own) (rw here (rw (nat_eq-same site) (ap (λ n. n + 1) m)))

counter_elsewhere : (older : List Version) (file : FileId) (site most : ℕ) (v : Version) → most ≡ greatest (λ p. counter older file p site) v.parents → true ≡ same_file v.file file → (v.site ≡ site → ⊥)
    → most ≡ cond (same_file v.file file) (counter_on older file site v) 0
counter_elsewhere older file site most v m own other = rw (sym own) (rw (nat_eq-other v.site site other) (m ∙ omega arith))

pub returns-then-version-site : goal.returns-then-version-site
returns-then-version-site c =
    counter_there (reverse c.args.older.now) c.args.file c.args.site c.greatest-most.result c.args.version.now
    (most_is c.args.file c.args.site c.greatest-most.result (reverse c.args.older.now) (reverse c.args.counters.now) c.as_slice.result.now c.args.version.now.parents c.greatest-most.ensures c.as_slice.ensures c.requires.before)
    c.if-not-is_of.ensures c.if-version-site.true

pub returns-else-version-site : goal.returns-else-version-site
returns-else-version-site c =
    counter_elsewhere (reverse c.args.older.now) c.args.file c.args.site c.greatest-most.result c.args.version.now
    (most_is c.args.file c.args.site c.greatest-most.result (reverse c.args.older.now) (reverse c.args.counters.now) c.as_slice.result.now c.args.version.now.parents c.greatest-most.ensures c.as_slice.ensures c.requires.before)
    c.if-not-is_of.ensures c.if-version-site.false
