-- What tests as the same as something in range is in range.
use Rattle.std.proofs.Common.{◌≡◌, ℕ, ◌==◌, ◌&&◌, Bool, true, List, [], ◌∷◌, Option, Some, None, refl, sym, subst}
use Rattle.std.specs.List.{list_all}
use Rattle.std.specs.Str.{bytes_eq}
use Rattle.std.proofs.lemmas.Slice.Eq.{bytes_eq-Decides}
use Rattle.locus_ids.specs.declared.ids.Brought.{Brought}
use Rattle.locus_ids.specs.declared.ids.Stamp.{Stamp}
use Rattle.commit_graph.specs.Versions.{same_stamp}
use Rattle.trace_book.specs.declared.operation.Op.{Op}
use Rattle.trace_book.specs.declared.operation.Op.TheVariants as op
use Rattle.trace_book.specs.declared.operation.Outcome.{Outcome}
use Rattle.trace_book.specs.declared.operation.Outcome.TheVariants as outcome
use Rattle.trace_book.specs.declared.operation.Served.{Served}
use Rattle.trace_book.specs.declared.operation.Served.TheVariants as served
use Rattle.call_rules.specs.declared.want.Want.{Want}
use Rattle.call_rules.specs.declared.want.Want.TheVariants as want
use Rattle.locus_ids.specs.declared.ids.Serial.{Serial}
use Rattle.trace_book.specs.Same.{same_serial}
use Rattle.wire_fields.specs.Components.{is_component}
use Rattle.trace_book.specs.Names.{is_name}
use Rattle.schedule_lines.specs.Ranges.{is_between}
use Rattle.locus_ids.specs.Sizes.{file_bytes_max}
use Rattle.record_reading.specs.Ranges.{is_brought, is_data, is_inode, is_optional_stamp, is_served, is_some_data, is_stamp}
use Rattle.text_laws.specs.CallTexts.Wants.{is_asked_op, is_want}
use Rattle.tree_model.specs.Same.{same_brought, same_kind, same_outcome, same_served, same_version}
use Rattle.promises.specs.Same.{same_list, same_op, same_request}
use Rattle.past_laws.proofs.BackActs.{kind_back}
use Rattle.past_laws.proofs.BackSame.{refusal_back}
use Rattle.past_laws.proofs.Alls.{all_first, all_more}
use Rattle.past_laws.proofs.Names.{both, both_parts, false_true, number_eq, stamp_eq}
use Rattle.text_laws.proofs.TreeTexts.Effects.{may_give}

bytes_test : (P : List ℕ → Bool) (a b : List ℕ) → bytes_eq a b ≡ true → P a ≡ true → P b ≡ true
bytes_test P a b e h = subst (λ (x : List ℕ). P x ≡ true) ((bytes_eq-Decides a b).0 e) h

number_test : (P : ℕ → Bool) (a b : ℕ) → (a == b) ≡ true → P a ≡ true → P b ≡ true
number_test P a b e h = subst (λ (x : ℕ). P x ≡ true) (number_eq a b e) h

pub data_same : (a b : List ℕ) → bytes_eq a b ≡ true → is_data file_bytes_max b ≡ true → is_data file_bytes_max a ≡ true
data_same a b e h = subst (λ (x : List ℕ). is_data file_bytes_max x ≡ true) (sym ((bytes_eq-Decides a b).0 e)) h

pub stamp_same : (a b : Stamp) → same_stamp a b ≡ true → is_stamp a ≡ true → is_stamp b ≡ true
stamp_same a b e h = subst (λ (s : Stamp). is_stamp s ≡ true) (stamp_eq a b e) h

pub version_same : (a b : Option Stamp) → same_version a b ≡ true → is_optional_stamp a ≡ true → is_optional_stamp b ≡ true
version_same None None e h = refl
version_same (Some a) (Some b) e h = stamp_same a b e h
version_same None (Some b) e h = false_true e
version_same (Some a) None e h = false_true e

pub version_turned : (a b : Option Stamp) → same_version a b ≡ true → is_optional_stamp b ≡ true → is_optional_stamp a ≡ true
version_turned None None e h = refl
version_turned (Some a) (Some b) e h = subst (λ (s : Stamp). is_stamp s ≡ true) (sym (stamp_eq a b e)) h
version_turned None (Some b) e h = false_true e
version_turned (Some a) None e h = false_true e

pub stamps_turned : (xs ys : List Stamp) → same_list same_stamp xs ys ≡ true → list_all is_stamp ys ≡ true → list_all is_stamp xs ≡ true
stamps_turned [] [] e h = refl
stamps_turned (x ∷ xs) (y ∷ ys) e h =
    let same = both_parts (same_stamp x y) (same_list same_stamp xs ys) e in
    let parts = all_first is_stamp y ys h in
    all_more is_stamp x xs (subst (λ (s : Stamp). is_stamp s ≡ true) (sym (stamp_eq x y same.0)) parts.0) (stamps_turned xs ys same.1 parts.1)
stamps_turned [] (y ∷ ys) e h = false_true e
stamps_turned (x ∷ xs) [] e h = false_true e

brought_turned : (a b : Brought) → same_brought a b ≡ true → is_brought b ≡ true → is_brought a ≡ true
brought_turned a b e h =
    let same = both_parts (a.ino == b.ino) (same_stamp a.stamp b.stamp) e in
    let parts = both_parts (is_inode b.ino) (is_stamp b.stamp) h in
    both (is_inode a.ino) (is_stamp a.stamp) (subst (λ (n : ℕ). is_inode n ≡ true) (sym (number_eq a.ino b.ino same.0)) parts.0) (subst (λ (s : Stamp). is_stamp s ≡ true) (sym (stamp_eq a.stamp b.stamp same.1)) parts.1)

pub brought_all : (xs ys : List Brought) → same_list same_brought xs ys ≡ true → list_all is_brought ys ≡ true → list_all is_brought xs ≡ true
brought_all [] [] e h = refl
brought_all (x ∷ xs) (y ∷ ys) e h =
    let same = both_parts (same_brought x y) (same_list same_brought xs ys) e in
    let parts = all_first is_brought y ys h in
    all_more is_brought x xs (brought_turned x y same.0 parts.0) (brought_all xs ys same.1 parts.1)
brought_all [] (y ∷ ys) e h = false_true e
brought_all (x ∷ xs) [] e h = false_true e

pub served_same : (a b : Served) → same_served a b ≡ true → is_served a ≡ true → is_served b ≡ true
served_same (served.At s) (served.At t) e h = stamp_same s t e h
served_same (served.No why) (served.No other) e h = subst (λ w. is_served (served.No w) ≡ true) (refusal_back why other e) h
served_same (served.At s) (served.No why) e h = false_true e
served_same (served.No why) (served.At s) e h = false_true e

-- what an operation gives is the same
outcome_back : (a b : Outcome) → same_outcome a b ≡ true → (P : Outcome → Bool) → P a ≡ true → P b ≡ true
outcome_back outcome.Done outcome.Done e P h = h
outcome_back (outcome.Found i k) (outcome.Found j l) e P h =
    let same = both_parts (i == j) (same_kind k l) e in
    subst (λ n. P (outcome.Found n l) ≡ true) (number_eq i j same.0) (subst (λ d. P (outcome.Found i d) ≡ true) (kind_back k l same.1) h)
outcome_back (outcome.Data x) (outcome.Data y) e P h = subst (λ z. P (outcome.Data z) ≡ true) ((bytes_eq-Decides x y).0 e) h
outcome_back (outcome.Committed s) (outcome.Committed t) e P h = subst (λ z. P (outcome.Committed z) ≡ true) (stamp_eq s t e) h
outcome_back (outcome.No why) (outcome.No other) e P h = subst (λ w. P (outcome.No w) ≡ true) (refusal_back why other e) h
outcome_back _ _ e P h = false_true e

pub outcome_same : (o : Op) (a b : Outcome) → same_outcome a b ≡ true → may_give o a ≡ true → may_give o b ≡ true
outcome_same o a b e h = outcome_back a b e (may_give o) h

-- an operation that is the same as one with good words
op_same : (q o : Op) → same_op q o ≡ true → is_asked_op q ≡ true → is_asked_op o ≡ true
op_same (op.Probe x) (op.Probe y) e h = bytes_test is_name x y e h
op_same (op.Find x) (op.Find y) e h = bytes_test is_component x y e h
op_same (op.Insert x i k) (op.Insert y j l) e h =
    let same = both_parts (bytes_eq x y) ((i == j) && same_kind k l) e in
    let parts = both_parts (is_name x) (is_inode i) h in
    both (is_name y) (is_inode j) (bytes_test is_name x y same.0 parts.0) (number_test is_inode i j (both_parts (i == j) (same_kind k l) same.1).0 parts.1)
op_same (op.Remove x i) (op.Remove y j) e h =
    let same = both_parts (bytes_eq x y) (i == j) e in
    let parts = both_parts (is_name x) (is_inode i) h in
    both (is_name y) (is_inode j) (bytes_test is_name x y same.0 parts.0) (number_test is_inode i j same.1 parts.1)
op_same (op.Rename x a) (op.Rename y b) e h =
    let same = both_parts (bytes_eq x y) (bytes_eq a b) e in
    let parts = both_parts (is_component x) (is_name a) h in
    both (is_component y) (is_name b) (bytes_test is_component x y same.0 parts.0) (bytes_test is_name a b same.1 parts.1)
op_same op.Empty op.Empty e h = refl
op_same (op.Read i n) (op.Read j m) e h =
    let same = both_parts (i == j) (n == m) e in
    let parts = both_parts (is_between 0 file_bytes_max i) (is_between 0 4096 n) h in
    both (is_between 0 file_bytes_max j) (is_between 0 4096 m) (number_test (is_between 0 file_bytes_max) i j same.0 parts.0) (number_test (is_between 0 4096) n m same.1 parts.1)
op_same (op.Write i x) (op.Write j y) e h =
    let same = both_parts (i == j) (bytes_eq x y) e in
    let parts = both_parts (is_between 0 file_bytes_max i) (is_some_data 4096 x) h in
    both (is_between 0 file_bytes_max j) (is_some_data 4096 y) (number_test (is_between 0 file_bytes_max) i j same.0 parts.0) (bytes_test (is_some_data 4096) x y same.1 parts.1)
op_same (op.Cut n) (op.Cut m) e h = number_test (is_between 0 file_bytes_max) n m e h
op_same op.Commit op.Commit e h = refl
op_same op.Abort op.Abort e h = refl
op_same op.Mend op.Mend e h = refl
op_same _ _ e h = false_true e

-- what is asked is the same operation
pub do_same : (w : Want) (i : Serial) (o : Op) → same_request w (want.Do i o) ≡ true → is_want w ≡ true → is_asked_op o ≡ true
do_same (want.Do j q) i o e h = op_same q o (both_parts (same_serial j i) (same_op q o) e).1 h
do_same _ i o e h = false_true e
