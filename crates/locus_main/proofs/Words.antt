-- Words are one command.
use Rattle.std.proofs.Common.{◌≡◌, ℕ, ◌<◌, ◌≤◌, ◌^◌, List, [], ◌∷◌, codes, refl, sym, ap, subst, ◌∙◌, arith}
use Rattle.std.specs.Fmt.{decimal}
use Rattle.std.proofs.lemmas.Fmt.{decimal_injective}
use Rattle.command_words.specs.Words.{IsCommand}
use Rattle.command_words.specs.declared.command.Command.{Command}
use Rattle.command_words.specs.declared.command.Command.TheVariants.{Run, Tree, Audit, Make}

abbrev first_byte : List (List ℕ) → ℕ
first_byte [] = 0
first_byte ([] ∷ ws) = 0
first_byte ((c ∷ cs) ∷ ws) = c

abbrev second_word : List (List ℕ) → List ℕ
second_word (a ∷ b ∷ ws) = b
second_word _ = []

abbrev third_word : List (List ℕ) → List ℕ
third_word (a ∷ b ∷ c ∷ ws) = c
third_word _ = []

run_not_tree : (words : List (List ℕ)) → words ≡ codes "run" ∷ [] → words ≡ codes "tree" ∷ [] → ⊥
run_not_tree words p q = let e : 114 ≡ 116 = ap first_byte (sym p ∙ q) in omega (arith, e)

run_not_make : (words rest : List (List ℕ)) → words ≡ codes "run" ∷ [] → words ≡ codes "make" ∷ rest → ⊥
run_not_make words rest p q = let e : 114 ≡ 109 = ap first_byte (sym p ∙ q) in omega (arith, e)

tree_not_make : (words rest : List (List ℕ)) → words ≡ codes "tree" ∷ [] → words ≡ codes "make" ∷ rest → ⊥
tree_not_make words rest p q = let e : 116 ≡ 109 = ap first_byte (sym p ∙ q) in omega (arith, e)

audit_not_run : (words : List (List ℕ)) → words ≡ codes "audit" ∷ [] → words ≡ codes "run" ∷ [] → ⊥
audit_not_run words p q = let e : 97 ≡ 114 = ap first_byte (sym p ∙ q) in omega (arith, e)

audit_not_tree : (words : List (List ℕ)) → words ≡ codes "audit" ∷ [] → words ≡ codes "tree" ∷ [] → ⊥
audit_not_tree words p q = let e : 97 ≡ 116 = ap first_byte (sym p ∙ q) in omega (arith, e)

audit_not_make : (words rest : List (List ℕ)) → words ≡ codes "audit" ∷ [] → words ≡ codes "make" ∷ rest → ⊥
audit_not_make words rest p q = let e : 97 ≡ 109 = ap first_byte (sym p ∙ q) in omega (arith, e)

small : (n : ℕ) → n ≤ 2000 → n < 2 ^ 64
small n h = omega (arith, h)

pub one_command : (words : List (List ℕ)) (c d : Command) → IsCommand words c → IsCommand words d → c ≡ d
one_command words Run Run p q = refl
one_command words Run Tree p q = absurd (run_not_tree words p q)
one_command words Run Audit p q = absurd (audit_not_run words q p)
one_command words Run (Make m f) p q = absurd (run_not_make words (decimal m ∷ decimal f ∷ []) p q.0)
one_command words Tree Run p q = absurd (run_not_tree words q p)
one_command words Tree Tree p q = refl
one_command words Tree Audit p q = absurd (audit_not_tree words q p)
one_command words Tree (Make m f) p q = absurd (tree_not_make words (decimal m ∷ decimal f ∷ []) p q.0)
one_command words Audit Run p q = absurd (audit_not_run words p q)
one_command words Audit Tree p q = absurd (audit_not_tree words p q)
one_command words Audit Audit p q = refl
one_command words Audit (Make m f) p q = absurd (audit_not_make words (decimal m ∷ decimal f ∷ []) p q.0)
one_command words (Make n e) Run p q = absurd (run_not_make words (decimal n ∷ decimal e ∷ []) q p.0)
one_command words (Make n e) Tree p q = absurd (tree_not_make words (decimal n ∷ decimal e ∷ []) q p.0)
one_command words (Make n e) Audit p q = absurd (audit_not_make words (decimal n ∷ decimal e ∷ []) q p.0)
one_command words (Make n e) (Make m f) p q =
    let numbers : n ≡ m = decimal_injective n m p.1 q.1 (ap second_word (sym p.0 ∙ q.0)) in
    let events : e ≡ f = decimal_injective e f (small e p.3) (small f q.3) (ap third_word (sym p.0 ∙ q.0)) in
    ap (λ (k : ℕ). Make k e) numbers ∙ ap (λ (k : ℕ). Make m k) events

-- the words of one command are none of another
pub not_another : (words : List (List ℕ)) (c d : Command) {P : Type 0} → (c ≡ d → ⊥) → IsCommand words c → IsCommand words d → P
not_another words c d other p q = absurd (other (one_command words c d p q))

pub run_is_no_tree : Run ≡ Tree → ⊥
run_is_no_tree e = cc

pub tree_is_no_run : Tree ≡ Run → ⊥
tree_is_no_run e = cc

pub run_is_no_load : (n e : ℕ) → Run ≡ Make n e → ⊥
run_is_no_load n e h = cc

pub tree_is_no_load : (n e : ℕ) → Tree ≡ Make n e → ⊥
tree_is_no_load n e h = cc

pub load_is_no_run : (n e : ℕ) → Make n e ≡ Run → ⊥
load_is_no_run n e h = cc

pub load_is_no_tree : (n e : ℕ) → Make n e ≡ Tree → ⊥
load_is_no_tree n e h = cc

pub audit_is_no_run : Audit ≡ Run → ⊥
audit_is_no_run e = cc

pub audit_is_no_tree : Audit ≡ Tree → ⊥
audit_is_no_tree e = cc

pub audit_is_no_load : (n e : ℕ) → Audit ≡ Make n e → ⊥
audit_is_no_load n e h = cc

pub run_is_no_audit : Run ≡ Audit → ⊥
run_is_no_audit e = cc

pub tree_is_no_audit : Tree ≡ Audit → ⊥
tree_is_no_audit e = cc

pub load_is_no_audit : (n e : ℕ) → Make n e ≡ Audit → ⊥
load_is_no_audit n e h = cc

abbrev number_of : Command → ℕ
number_of (Make n e) = n
number_of _ = 0

abbrev events_of : Command → ℕ
events_of (Make n e) = e
events_of _ = 0

-- what holds of one load holds of the same
pub for_load : (P : ℕ → ℕ → Type 0) (n e m f : ℕ) → Make n e ≡ Make m f → P n e → P m f
for_load P n e m f same h = subst (λ (k : ℕ). P m k) (ap events_of same) (subst (λ (k : ℕ). P k e) (ap number_of same) h)

-- the command that was read
pub read_as : (words : List (List ℕ)) (c d : Command) → c ≡ d → IsCommand words c → IsCommand words d
read_as words c d e h = subst (IsCommand words) e h

pub few_events : (words : List (List ℕ)) (n e : ℕ) → IsCommand words (Make n e) → e ≤ 2000
few_events words n e h = h.3
