use Rattle.std.proofs.Common.{◌≡◌, ◌∙◌, ◌+◌, ◌++◌, ℕ, suc, List, [], ◌∷◌, drop, get_or, refl, sym, ap, arith}
use Rattle.std.specs.Prelude.{Option, None}
use Rattle.std.proofs.lemmas.List.{append-nil, get_or-drop}
use Rattle.pack_slots.specs.declared.inode_copy.InodeCopy.{InodeCopy}
use Rattle.wire_messages.specs.declared.body.ReportedCopy.{ReportedCopy}
use Rattle.site_packs.specs.Packs.{slot_in, slots_reported, slots_from}
use Rattle.site_packs.proofs.heads.report_pack.Goals as goal

-- where there is no copy, no slot says anything
nothing_said : (ino : ℕ) (copies : List (Option InodeCopy)) → ((i : ℕ) → get_or copies i None ≡ None) → slots_from ino copies ≡ []
nothing_said ino [] none = refl
nothing_said ino (copy ∷ copies) none = ap (λ (o : Option InodeCopy). slots_reported ino (slot_in o) ++ slots_from (ino + 1) copies) (none 0) ∙ nothing_said (ino + 1) copies (λ i. none (suc i))

pub returns : goal.returns
returns c =
    let copies = c.args.pack.now.copies in
    let i = c.loop-i.i in
    let rest : slots_from (i + 1) (drop i copies) ≡ [] = nothing_said (i + 1) (drop i copies) (λ k. get_or-drop i copies k None ∙ c.last_ino-i-end.ensures.none (suc (i + k)) (omega arith)) in
    sym (append-nil c.loop-i.out) ∙ ap (λ (l : List ReportedCopy). c.loop-i.out ++ l) (sym rest) ∙ c.loop-i.invariant
