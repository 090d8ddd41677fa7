-- Rows of a table, and lists in order: what holds of each holds of each that is put, taken out, found or sorted.
use Rattle.std.proofs.Common.{ℕ, ◌==◌, nat_lt, Bool, true, false, List, [], ◌∷◌, Option, Some, None}
use Rattle.role_steps.specs.of_wire_messages.declared.packet.Packet.{Packet}
use Rattle.role_steps.specs.Own.{Every}
use Rattle.role_steps.specs.Tables.{row, with_row, without_row, first_that, sorted_onto, put_before}
use Rattle.the_run.specs.Steps.{is_before, in_order}

-- ---- rows ----

pub every_row : {A : Type 0} (P : A → Type 0) (key : A → ℕ) (x : A) (xs : List A) → P x → Every P xs → Every P (with_row key x xs)
every_row P key x [] p h = (p, tt)
every_row P key x (y ∷ ys) p h =
    elim (nat_lt (key y) (key x)) as (λ b. Every P (elim b [ true ↦ y ∷ with_row key x ys | false ↦ elim (key y == key x) [ true ↦ x ∷ ys | false ↦ x ∷ y ∷ ys ] ])) [
      | true ↦ (h.0, every_row P key x ys p h.1)
      | false ↦ elim (key y == key x) as (λ b. Every P (elim b [ true ↦ x ∷ ys | false ↦ x ∷ y ∷ ys ])) [ true ↦ (p, h.1) | false ↦ (p, h) ]
    ]

pub every_without : {A : Type 0} (P : A → Type 0) (key : A → ℕ) (k : ℕ) (xs : List A) → Every P xs → Every P (without_row key k xs)
every_without P key k [] h = tt
every_without P key k (x ∷ xs) h = elim (key x == k) as (λ b. Every P (elim b [ true ↦ xs | false ↦ x ∷ without_row key k xs ])) [ true ↦ h.1 | false ↦ (h.0, every_without P key k xs h.1) ]

-- what is found has the property
abbrev pub Found : {A : Type 0} → (A → Type 0) → Option A → Type 0
Found P None = Unit {0}
Found P (Some x) = P x

pub row_found : {A : Type 0} (P : A → Type 0) (key : A → ℕ) (k : ℕ) (xs : List A) → Every P xs → Found P (row key k xs)
row_found P key k [] h = tt
row_found P key k (x ∷ xs) h = elim (key x == k) as (λ b. Found P (elim b [ true ↦ Some x | false ↦ row key k xs ])) [ true ↦ h.0 | false ↦ row_found P key k xs h.1 ]

pub first_found : {A : Type 0} (P : A → Type 0) (test : A → Bool) (xs : List A) → Every P xs → Found P (first_that test xs)
first_found P test [] h = tt
first_found P test (x ∷ xs) h = elim (test x) as (λ b. Found P (elim b [ true ↦ Some x | false ↦ first_that test xs ])) [ true ↦ h.0 | false ↦ first_found P test xs h.1 ]

-- ---- sorting keeps what holds of each ----

put_sent : {A : Type 0} (P : A → Type 0) (before : A → A → Bool) (x : A) (ys : List A) → P x → Every P ys → Every P (put_before before x ys)
put_sent P before x [] p h = (p, tt)
put_sent P before x (y ∷ ys) p h = elim (before x y) as (λ b. Every P (elim b [ true ↦ x ∷ y ∷ ys | false ↦ y ∷ put_before before x ys ])) [ true ↦ (p, h) | false ↦ (h.0, put_sent P before x ys p h.1) ]

onto_sent : {A : Type 0} (P : A → Type 0) (before : A → A → Bool) (done xs : List A) → Every P done → Every P xs → Every P (sorted_onto before done xs)
onto_sent P before done [] d h = d
onto_sent P before done (x ∷ xs) d h = onto_sent P before (put_before before x done) xs (put_sent P before x done h.0 d) h.1

pub order_sent : (P : Packet → Type 0) (ps : List Packet) → Every P ps → Every P (in_order ps)
order_sent P ps h = onto_sent P is_before [] ps tt h
