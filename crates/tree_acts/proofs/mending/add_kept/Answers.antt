use Rattle.std.proofs.Common.{◌≡◌, ℕ, true, false, refl, ◌∙◌, ◌++◌, ap, sym}
use Rattle.std.proofs.lemmas.Bool.{false≢true}
use Rattle.tree_model.specs.Mending.{is_kept, vector_kept}
use Rattle.tree_model.specs.State.{has_stamp}
use Rattle.tree_acts.specs.Acting.{is_number}
use Rattle.tree_acts.proofs.Kept.{is_none_else, is_one, left_of_one, none_of_one, not_of_one, with_none}
use Rattle.tree_acts.proofs.mending.add_kept.Goals as goal

pub returns-then-not-has_stamp : goal.returns-then-not-has_stamp
returns-then-not-has_stamp c =
    let fails = sym (ap (λ ss. has_stamp ss c.args.brought.stamp) c.requires.kept) ∙ sym c.has_stamp.ensures ∙ c.if-not-has_stamp.true in
    with_none c.args.made.now _ (not_of_one (is_kept c.args.h.now c.args.tree.now) (vector_kept c.args.h.now c.args.tree.now) c.args.brought fails)

pub returns-in_default : goal.returns-in_default
returns-in_default c =
    let passes = sym (ap (λ ss. has_stamp ss c.args.brought.stamp) c.requires.kept) ∙ sym c.has_stamp.ensures ∙ c.if-not-has_stamp.false in
    let none : is_number c.args.brought.ino ≡ false = is_none_else c.args.brought.ino (λ h. false≢true (c.in_default.ensures.some.1 h)) in
    with_none c.args.made.now _ (none_of_one (is_kept c.args.h.now c.args.tree.now) (vector_kept c.args.h.now c.args.tree.now) c.args.brought passes none)

pub returns : goal.returns
returns c =
    let passes = sym (ap (λ ss. has_stamp ss c.args.brought.stamp) c.requires.kept) ∙ sym c.has_stamp.ensures ∙ c.if-not-has_stamp.false in
    let number : is_number c.args.brought.ino ≡ true = is_one c.args.brought.ino (c.in-Some.ensures.some.0 refl) in
    let made = c.in_ok-vector.ensures ∙ ap (λ (n : ℕ). vector_kept c.args.h.now c.args.tree.now (record { ino = n; stamp = c.args.brought.stamp })) c.in-Some.ensures.value in
    c.in_ok-push.ensures.ok ∙ ap (λ vs. c.args.made.now ++ vs) (left_of_one (is_kept c.args.h.now c.args.tree.now) (vector_kept c.args.h.now c.args.tree.now) c.args.brought c.in_ok-vector.vector passes number made)
