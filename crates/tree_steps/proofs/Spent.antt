-- No counter has its greatest value while the history is short.
use Rattle.std.proofs.Common.{◌≡◌, ◌≤◌, ◌<◌, ℕ, ◌+◌, ◌==◌, ◌&&◌, ◌||◌, not, nat_lt, Bool, true, false, cond, List, [], ◌∷◌, length, Option, Some, refl, sym, ap, ◌∙◌, arith}
use Rattle.tree_model.specs.declared.instance.Instance.{Instance}
use Rattle.tree_model.specs.Same.{same_version}
use Rattle.tree_model.specs.State.{TreeState}
use Rattle.tree_model.specs.Working.{is_spent, parents_of}
use Rattle.tree_model.specs.Given.{instance_ends}
use Rattle.locus_ids.specs.declared.ids.FileId.{FileId}
use Rattle.locus_ids.specs.declared.ids.Stamp.{Stamp}
use Rattle.commit_graph.specs.declared.history.Version.{Version}
use Rattle.commit_graph.specs.Versions.{is_version, same_file}
use Rattle.commit_graph.specs.Counters.{counter, greatest, next_number}

greatest-most : (f : Stamp → ℕ) (most : ℕ) (ss : List Stamp) → ((s : Stamp) → f s ≤ most) → greatest f ss ≤ most
greatest-most f most [] below = omega arith
greatest-most f most (s ∷ ss) below = let here = below s in let rest = greatest-most f most ss below in omega (arith, here, rest)

-- each version raises a counter by one at most
counter-most : (h : List Version) (file : FileId) (b : Stamp) (site : ℕ) → counter h file b site ≤ length h
counter-most [] file b site = omega arith
counter-most (v ∷ older) file b site = by_tests (is_version file b v) (v.site == site) (λ p. counter-most older file p site)
  where
    by_tests : (own here : Bool) → ((p : Stamp) → counter older file p site ≤ length older)
        → cond own (greatest (λ p. counter older file p site) v.parents + cond here 1 0) (counter older file b site) ≤ length (v ∷ older)
    by_tests true true below = let h = greatest-most (λ p. counter older file p site) (length older) v.parents below in omega (arith, h)
    by_tests true false below = let h = greatest-most (λ p. counter older file p site) (length older) v.parents below in omega (arith, h)
    by_tests false here below = let h = below b in omega (arith, h)

pub next-most : (h : List Version) (file : FileId) (parents : List Stamp) (site : ℕ) → next_number h file parents site ≤ length h + 1
next-most h file parents site = let g = greatest-most (λ p. counter h file p site) (length h) parents (λ p. counter-most h file p site) in omega (arith, g)

not_below : (a b : ℕ) → b ≤ a → nat_lt a b ≡ false
not_below a b h = grind (arith, h)

pub never_spent : (h : List Version) (t : TreeState) (x : Instance) → length h < 4294967295 → is_spent h t x ≡ false
never_spent h t x short =
    let most = next-most h x.grant.file (parents_of h t x) x.grant.ss in
    not_below 4294967295 (next_number h x.grant.file (parents_of h t x) x.grant.ss) (omega (arith, most, short))

or_not : (b : Bool) → b ≡ (b || false)
or_not true = refl
or_not false = refl

-- an instance ends where it owes nothing, since its counter can still rise
pub ends_owing_nothing : (h : List Version) (t : TreeState) (f : FileId) (stamp : Option Stamp) (x : Instance) → length h < 4294967295
    → (same_file x.grant.file f && (same_version stamp x.work.committed && not x.work.owes)) ≡ instance_ends h t f stamp (Some x)
ends_owing_nothing h t f stamp x short =
    ap (λ (b : Bool). same_file x.grant.file f && (same_version stamp x.work.committed && b))
    (or_not (not x.work.owes) ∙ ap (λ (b : Bool). not x.work.owes || b) (sym (never_spent h t x short)))
