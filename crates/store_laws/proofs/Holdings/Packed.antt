-- Who holds a version of a file has a pack of its group.
use Rattle.std.proofs.Common.{◌≡◌, ℕ, ◌==◌, Bool, true, false, ◌&&◌, cond, [], ◌∷◌, Option, Some, None, refl, sym, ap, ◌∙◌, subst}
use Rattle.std.specs.Option.{option_or}
use Rattle.tree_laws.proofs.of_plain_facts.Numbers.{equal}
use Rattle.tree_laws.proofs.of_plain_facts.Options.{none_some}
use Rattle.tree_laws.proofs.of_plain_facts.Tests.{and_first, and_second}
use Rattle.locus_ids.specs.declared.config.Config.{Config}
use Rattle.locus_ids.specs.declared.ids.EpochId.{EpochId}
use Rattle.locus_ids.specs.declared.ids.FileId.{FileId}
use Rattle.locus_ids.specs.declared.ids.Stamp.{Stamp}
use Rattle.commit_graph.specs.Versions.{same_file}
use Rattle.trace_book.specs.declared.record.Record.{Record}
use Rattle.trace_book.specs.declared.record.Record.TheVariants as says
use Rattle.tree_model.specs.declared.copy.HeldCopy.{HeldCopy}
use Rattle.tree_model.specs.Folds.{Trace}
use Rattle.tree_model.specs.Histories.{format_stamp, formatted, held}
use Rattle.tree_model.specs.Packs.{has_pack}
use Rattle.tree_model.specs.State.{copy_of, held_of}
use Rattle.tree_model.specs.Tree.{tree_of}
use Rattle.tree_laws.proofs.Orders.Standing.{same_file_eq}
use Rattle.store_laws.proofs.Holdings.Copies.{copies_are, now_of}

-- a version is written where a pack is
abbrev pub IsPacked : Config → Record → Type 0
IsPacked c (says.Commit f s stamp parents content) = has_pack c f.group s ≡ true
IsPacked c (says.Adopt f s stamp) = has_pack c f.group s ≡ true
IsPacked c _ = Unit {0}

abbrev pub PacksHold : Config → Trace → Type 0
PacksHold c [] = Unit {0}
PacksHold c (r ∷ before) = IsPacked c r.what × PacksHold c before

pub holder_packed : (c : Config) (trace : Trace) → PacksHold c trace → (s : ℕ) (f : FileId) (v : Stamp) → held c trace s f ≡ Some v → has_pack c f.group s ≡ true
holder_packed c [] packs s f v k = root (f.ino == 1) (has_pack c f.group s) refl k
  where
    root : (a b : Bool) → has_pack c f.group s ≡ b → cond (a && b) (Some format_stamp) None ≡ Some v → has_pack c f.group s ≡ true
    root true true e k = e
    root true false e k = absurd (none_some v k)
    root false b e k = absurd (none_some v k)
holder_packed c (r ∷ before) packs s f v k = step r.what packs.0 k (holder_packed c before packs.1 s f v)
  where
    here : (g : FileId) (z : ℕ) (stamp : Stamp) → has_pack c g.group z ≡ true → (b : Bool) → same_file g f && (z == s) ≡ b → cond b (Some stamp) (held c before s f) ≡ Some v → (held c before s f ≡ Some v → has_pack c f.group s ≡ true) → has_pack c f.group s ≡ true
    here g z stamp p true e k later = subst (λ (y : FileId). has_pack c y.group s ≡ true) (same_file_eq g f (and_first (same_file g f) _ e)) (subst (λ (n : ℕ). has_pack c g.group n ≡ true) (equal z s (and_second (same_file g f) _ e)) p)
    here g z stamp p false e k later = later k

    step : (r : Record) → IsPacked c r → held c (record { line = 0; what = r } ∷ before) s f ≡ Some v → (held c before s f ≡ Some v → has_pack c f.group s ≡ true) → has_pack c f.group s ≡ true
    step (says.Commit g z stamp parents content) p k later = here g z stamp p (same_file g f && (z == s)) refl k later
    step (says.Adopt g z stamp) p k later = here g z stamp p (same_file g f && (z == s)) refl k later
    step r p k later = later k

-- and so has who has a copy of it in a tree
pub copy_packed : (c : Config) (trace : Trace) → PacksHold c trace → (e : EpochId) (f : FileId) (s : ℕ) (x : HeldCopy) → copy_of (tree_of c e f.group trace).copies s f.ino ≡ Some x → has_pack c f.group s ≡ true
copy_packed c trace packs e f s x k = holder_packed c trace packs s f x.now (sym (copies_are c trace e f.group s f.ino).now_is ∙ ap (λ (o : Option HeldCopy). option_or (now_of o) (formatted c s f)) k)

pub held_packed : (c : Config) (trace : Trace) → PacksHold c trace → (e : EpochId) (f : FileId) (s : ℕ) (v : Stamp) → held_of (copy_of (tree_of c e f.group trace).copies s f.ino) ≡ Some v → has_pack c f.group s ≡ true
held_packed c trace packs e f s v k = at (copy_of (tree_of c e f.group trace).copies s f.ino) refl k
  where
    at : (o : Option HeldCopy) → copy_of (tree_of c e f.group trace).copies s f.ino ≡ o → held_of o ≡ Some v → has_pack c f.group s ≡ true
    at None e1 k = absurd (none_some v k)
    at (Some x) e1 k = copy_packed c trace packs e f s x e1
