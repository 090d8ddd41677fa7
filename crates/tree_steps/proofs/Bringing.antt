-- A version that a site brings after all others.
use Rattle.std.proofs.Common.{◌≡◌, ◌==◌, ◌&&◌, ℕ, Bool, true, false, cond, List, [], ◌∷◌, ◌++◌, None, refl, sym, ap, ◌∙◌, ⊎_elim, arith}
use Rattle.std.specs.Option.{is_none}
use Rattle.std.specs.Prelude.{filter}
use Rattle.std.proofs.lemmas.Bool.{cases_Bool}
use Rattle.locus_ids.specs.declared.ids.Brought.{Brought}
use Rattle.tree_model.specs.declared.copy.HeldCopy.{HeldCopy}
use Rattle.tree_model.specs.Packs.{has_pack}
use Rattle.tree_model.specs.Histories.{format_stamp}
use Rattle.tree_model.specs.State.{TreeState, copy_of, with_all, with_brought}
use Rattle.tree_steps.specs.Answers.{brought_with}

filter-push : (p : HeldCopy → Bool) (cs : List HeldCopy) (c : HeldCopy) → p c ≡ true → filter p (cs ++ c ∷ []) ≡ filter p cs ++ c ∷ []
filter-push p [] c t = rw t refl
filter-push p (d ∷ ds) c t =
    ⊎_elim (λ (e : p d ≡ true). rw e (ap (λ xs. d ∷ xs) (filter-push p ds c t)))
    (λ (e : p d ≡ false). rw e (filter-push p ds c t))
    (cases_Bool (p d))

with_all-push : (cs : List HeldCopy) (c : HeldCopy) (known : List Brought) → with_all (cs ++ c ∷ []) known ≡ with_brought (record { ino = c.ino; stamp = c.now }) (with_all cs known)
with_all-push [] c known = refl
with_all-push (d ∷ ds) c known = with_all-push ds c (with_brought (record { ino = d.ino; stamp = d.now }) known)

nat_eq-same : (n : ℕ) → (n == n) ≡ true
nat_eq-same n = grind arith

-- where the site has a pack and no version of the root directory yet, it brings that of the format last
pub brings_the_root : (t : TreeState) (site : ℕ) → true ≡ (has_pack t.config t.group site && is_none (copy_of t.copies site 1))
    → with_brought (record { ino = 1; stamp = format_stamp }) (with_all (filter (λ (c : HeldCopy). c.site == site) t.copies) t.known) ≡ brought_with t site
brings_the_root t site h =
    let root : HeldCopy = record { site = site; ino = 1; now = format_stamp; held = None } in
    sym (ap (λ (b : Bool). with_all (filter (λ (c : HeldCopy). c.site == site) (cond b (t.copies ++ root ∷ []) t.copies)) t.known) (sym h)
    ∙ ap (λ xs. with_all xs t.known) (filter-push (λ (c : HeldCopy). c.site == site) t.copies root (nat_eq-same site))
    ∙ with_all-push (filter (λ (c : HeldCopy). c.site == site) t.copies) root t.known)

pub brings_no_root : (t : TreeState) (site : ℕ) → false ≡ (has_pack t.config t.group site && is_none (copy_of t.copies site 1))
    → with_all (filter (λ (c : HeldCopy). c.site == site) t.copies) t.known ≡ brought_with t site
brings_no_root t site h =
    let root : HeldCopy = record { site = site; ino = 1; now = format_stamp; held = None } in
    ap (λ (b : Bool). with_all (filter (λ (c : HeldCopy). c.site == site) (cond b (t.copies ++ root ∷ []) t.copies)) t.known) h

pub brings_root_then : (t : TreeState) (site : ℕ) (slice : List HeldCopy) (made noted after : List Brought)
    → after ≡ with_brought (record { ino = 1; stamp = format_stamp }) noted → noted ≡ with_all (filter (λ (c : HeldCopy). c.site == site) slice) made
    → slice ≡ t.copies → made ≡ t.known → true ≡ (has_pack t.config t.group site && is_none (copy_of t.copies site 1)) → after ≡ brought_with t site
brings_root_then t site slice made noted after a n s m h =
    let both : with_all (filter (λ (c : HeldCopy). c.site == site) slice) made ≡ with_all (filter (λ (c : HeldCopy). c.site == site) t.copies) t.known
    = ap (λ cs. with_all (filter (λ (c : HeldCopy). c.site == site) cs) made) s ∙ ap (with_all (filter (λ (c : HeldCopy). c.site == site) t.copies)) m in
    a ∙ ap (with_brought (record { ino = 1; stamp = format_stamp })) (n ∙ both) ∙ brings_the_root t site h
