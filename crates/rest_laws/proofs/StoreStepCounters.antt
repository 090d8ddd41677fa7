-- No counter of a version is at its end, where no commit has the last number: a counter is 0, or the number of a commit.
use Rattle.std.proofs.Common.{◌≡◌, ◌≤◌, ◌<◌, ℕ, ◌+◌, ◌-◌, ◌==◌, max, Bool, true, false, ◌&&◌, cond, List, [], ◌∷◌, refl, sym, ◌∙◌, ap, subst, arith}
use Rattle.std.proofs.lemmas.Bool.Decides.{nat_tests}
use Rattle.role_steps.proofs.of_plain_facts.Numbers.{equal}
use Rattle.role_steps.proofs.of_plain_facts.Tests.{and_first}
use Rattle.locus_ids.specs.declared.config.Config.{Config}
use Rattle.locus_ids.specs.declared.ids.FileId.{FileId}
use Rattle.locus_ids.specs.declared.ids.Stamp.{Stamp}
use Rattle.locus_ids.specs.Sizes.{sites_max}
use Rattle.commit_graph.specs.Counters.{counter, greatest, next_number}
use Rattle.commit_graph.specs.Versions.{same_file, same_stamp}
use Rattle.commit_graph.specs.declared.history.Version.{Version}
use Rattle.version_vector.specs.Counters.{part}
use Rattle.trace_book.specs.declared.record.Record.{Record}
use Rattle.trace_book.specs.declared.record.Record.TheVariants as says
use Rattle.role_steps.specs.Storage.{is_spent}
use Rattle.role_steps.specs.Views.{Frame, Told, Shown}
use Rattle.role_steps.specs.declared.instances.Instance.{Instance}
use Rattle.the_run.specs.Worlds.{Line}
use Rattle.tree_model.specs.Histories.{history, history_after}
use Rattle.tree_laws.specs.Following.{IsFollowed, MayTell}
use Rattle.tree_laws.specs.Packets.{JoinsParents}
use Rattle.tree_laws.specs.Printed.{entries, onto_entries}
use Rattle.store_laws.proofs.of_tree_laws.Orders.Standing.{same_file_eq}
use Rattle.store_laws.proofs.Raising.{joins_greatest}
use Rattle.store_laws.specs.OneTree.Rest.{EachRest, RangeTold}
use Rattle.rest_laws.proofs.StoreStepFirst.{counts_none}

-- below the last number of 32 bits
abbrev Low : ℕ → Type 0
Low n = n < 4294967295

greatest_low : (g : Stamp → ℕ) → ((p : Stamp) → Low (g p)) → (ps : List Stamp) → Low (greatest g ps)
greatest_low g low [] = omega arith
greatest_low g low (p ∷ ps) = both (g p) (greatest g ps) (low p) (greatest_low g low ps)
  where
    both : (a b : ℕ) → a < 4294967295 → b < 4294967295 → max a b < 4294967295
    both a b p q = omega (arith, p, q)

none_zero : (site : ℕ) → 1 ≤ site → (0 == site) ≡ false
none_zero site low = grind (arith, nat_tests)

nothing_low : (n : ℕ) → n ≡ 0 → n < 4294967295
nothing_low n e = omega (arith, e)

-- the counter of a version that is committed
commit_low : (h : List Version) (f g : FileId) (b stamp : Stamp) (s site : ℕ) (parents : List Stamp) (content : List ℕ) → ((a : Stamp) → Low (counter h f a site)) → Low stamp.n → stamp ≡ record { site = s; n = next_number h g parents s } →
    Low (counter (record { file = g; site = s; stamp = stamp; parents = parents; content = content } ∷ h) f b site)
commit_low h f g b stamp s site parents content before low numbered = over (same_file g f && same_stamp stamp b) refl
  where
    number_is : s ≡ site → g ≡ f → greatest (λ p. counter h f p site) parents + 1 ≡ stamp.n
    number_is at is = sym (subst (λ (y : FileId). stamp.n ≡ next_number h y parents site) is (subst (λ (z : ℕ). stamp.n ≡ next_number h g parents z) at (ap (λ (z : Stamp). z.n) numbered)))

    sum : (x : Bool) → (s == site) ≡ x → g ≡ f → Low (greatest (λ p. counter h f p site) parents + cond x 1 0)
    sum true e is = subst Low (sym (number_is (equal s site e) is)) low
    sum false e is = more (greatest (λ p. counter h f p site) parents) (greatest_low (λ p. counter h f p site) before parents)
      where
        more : (n : ℕ) → n < 4294967295 → n + 0 < 4294967295
        more n l = omega (arith, l)

    over : (x : Bool) → (same_file g f && same_stamp stamp b) ≡ x → Low (cond x (greatest (λ p. counter h f p site) parents + cond (s == site) 1 0) (counter h f b site))
    over true e = sum (s == site) refl (same_file_eq g f (and_first (same_file g f) (same_stamp stamp b) e))
    over false e = before b

pub counter_low : (c : Config) (t : List Line) → IsFollowed c t → EachRest c t → (f : FileId) (site : ℕ) → 1 ≤ site → (b : Stamp) → Low (counter (history c (entries t)) f b site)
counter_low c [] h g f site low b = nothing_low (counter (history c []) f b site) (counts_none 0 c.packs f b site (none_zero site low))
counter_low c (x ∷ older) h g f site low b = over x.told h.0 g.0.range (counter_low c older h.1 g.1 f site low)
  where
    Before : Type 0
    Before = (a : Stamp) → Low (counter (history c (entries older)) f a site)

    printed : (r : Record) → MayTell c older (Shown r) → RangeTold c (Shown r) → Before → Low (counter (history_after r (history c (entries older))) f b site)
    printed (says.Commit file s stamp parents content) may range before = commit_low (history c (entries older)) f file b stamp s site parents content before range.1 may.row.numbered
    printed _ may range before = before b

    over : (y : Told) → MayTell c older y → RangeTold c y → Before → Low (counter (history c (onto_entries x.number y (entries older))) f b site)
    over (Shown r) may range before = printed r may range before
    over _ may range before = before b

-- the counter of what a storage site works on can rise
pub unspent : (c : Config) (t : List Line) → IsFollowed c t → EachRest c t → (f : Frame) → 1 ≤ f.me → f.me ≤ sites_max → (i : Instance) → JoinsParents c t i.file i.parents i.vector → is_spent f i ≡ false
unspent c t h g f low high i joins = apart (below (greatest_low (λ p. counter (history c (entries t)) i.file p f.me) (counter_low c t h g i.file f.me low) i.parents))
  where
    place : 1 + (f.me - 1) ≡ f.me
    place = omega (arith, low)

    within : f.me - 1 < sites_max
    within = omega (arith, low, high)

    part_is : part i.vector (f.me - 1) ≡ greatest (λ p. counter (history c (entries t)) i.file p f.me) i.parents
    part_is = joins_greatest c t i.file i.parents i.vector joins (f.me - 1) within ∙ ap (λ (s : ℕ). greatest (λ p. counter (history c (entries t)) i.file p s) i.parents) place

    below : Low (greatest (λ p. counter (history c (entries t)) i.file p f.me) i.parents) → Low (part i.vector (f.me - 1))
    below k = subst Low (sym part_is) k

    apart : part i.vector (f.me - 1) < 4294967295 → (part i.vector (f.me - 1) == 4294967295) ≡ false
    apart k = grind (arith, nat_tests)
