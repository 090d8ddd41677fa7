use Rattle.std.proofs.Common.{◌≡◌, ◌+◌, ℕ, Bool, List, [], ◌∷◌, ◌++◌, ◌&&◌, filter, drop, sym, ap, ◌∙◌, append_assoc, append-nil, arith}
use Rattle.std.proofs.lemmas.List.Elements.{filter-append}
use Rattle.locus_ids.specs.Sites.{has}
use Rattle.role_steps.specs.Views.{all_sites, is_member}
use Rattle.role_steps.proofs.Numbers.{next_site, no_site}
use Rattle.css_notices.proofs.members.members_of.Goals as goal

pub loop-place-preserved : goal.loop-place-preserved
loop-place-preserved c =
    let p : ℕ → Bool = λ s. has c.args.set s && is_member c.args.frame.now.members s in
    let place = c.loop-place.place in
    let made = c.loop-place.made.items in
    ap (λ (xs : List ℕ). xs ++ filter p (drop (place + 1) all_sites)) c.in_ok-add_member.ensures
    ∙ (append_assoc made (filter p ((place + 1) ∷ [])) (filter p (drop (place + 1) all_sites))
    ∙ (ap (λ (xs : List ℕ). made ++ xs) (sym (filter-append p ((place + 1) ∷ []) (drop (place + 1) all_sites)) ∙ ap (filter p) (sym (next_site place (omega arith))))
    ∙ c.loop-place.invariant))

pub returns : goal.returns
returns c =
    let p : ℕ → Bool = λ s. has c.args.set s && is_member c.args.frame.now.members s in
    sym (append-nil c.loop-place.made.items)
    ∙ (ap (λ (ss : List ℕ). c.loop-place.made.items ++ filter p ss) (sym (no_site c.loop-place.place (omega arith)))
    ∙ c.loop-place.invariant)
