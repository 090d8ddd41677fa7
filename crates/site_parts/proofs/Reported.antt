-- Reports, group by group.
use Rattle.std.proofs.Common.{◌≡◌, ℕ, ◌+◌, ◌<◌, ◌≤◌, List, ◌++◌, append-nil, append_assoc, length, get_or, drop, sym, ap, ◌∙◌}
use Rattle.std.proofs.lemmas.List.{drop_all, drop_more}
use Rattle.std.specs.List.{flat_map}
use Rattle.wire_messages.specs.declared.packet.Packet.{Packet}

pub group_reported : (f : ℕ → List Packet) (groups : List ℕ) (i group : ℕ) (now before first : List Packet) → i < length groups → group ≡ get_or groups i 0 → now ≡ before ++ f group → before ++ flat_map f (drop i groups) ≡ first → now ++ flat_map f (drop (i + 1) groups) ≡ first
group_reported f groups i group now before first h e n p =
    let rest : List Packet = flat_map f (drop (i + 1) groups) in
    ap (λ (ps : List Packet). ps ++ rest) n ∙ (append_assoc before (f group) rest ∙ (ap (λ (k : ℕ). before ++ (f k ++ rest)) e ∙ (sym (ap (λ (gs : List ℕ). before ++ flat_map f gs) (drop_more groups i 0 h)) ∙ p)))

pub groups_reported : (f : ℕ → List Packet) (groups : List ℕ) (i : ℕ) (now first : List Packet) → length groups ≤ i → now ++ flat_map f (drop i groups) ≡ first → now ≡ first
groups_reported f groups i now first h p = sym (ap (λ (gs : List ℕ). now ++ flat_map f gs) (drop_all i groups h) ∙ append-nil now) ∙ p
