-- What is asked of the call of a name, or of the members of its epoch, is asked of the one that is found.
use Rattle.std.proofs.Common.{◌≡◌, ℕ, ◌≤◌, Bool, true, false, ◌&&◌, cond, List, [], ◌∷◌, length, filter, take, ◌+◌, ◌-◌, Option, Some, None, IfOk, refl, sym, ap, ◌∙◌, subst, arith}
use Rattle.std.specs.Prelude.{Result, Ok, Err, nat_le, nat_lt}
use Rattle.std.specs.List.{find, list_any}
use Rattle.std.specs.Option.{option_map}
use Rattle.past_laws.proofs.Names.{epoch_turned}
use Rattle.locus_ids.specs.declared.config.Config.{Config}
use Rattle.locus_ids.specs.declared.sites.Members.{Members}
use Rattle.locus_ids.specs.declared.ids.EpochId.{EpochId}
use Rattle.locus_ids.specs.declared.ids.CallId.{CallId}
use Rattle.trace_book.specs.Same.{same_epoch}
use Rattle.call_rules.specs.declared.answer.Answer.{Answer}
use Rattle.tree_model.specs.Epochs.{is_in}
use Rattle.locus_ids.specs.declared.ids.FileId.{FileId}
use Rattle.trace_book.specs.declared.operation.What.{What}
use Rattle.call_rules.specs.declared.want.Want.{Want}
use Rattle.call_rules.specs.declared.want.Want.TheVariants as want
use Rattle.promises.specs.Past.{Past, CallSoFar, Epoch, asks, asks_after}
use Rattle.promises.specs.Rows.{is_asked}
use Rattle.promises.specs.Same.{same_request}
use Rattle.promises.specs.After.{is_epoch, is_id}
use Rattle.audit_past.specs.of_audit_epochs.Changes.{is_home}
use Rattle.audit_call_rows.specs.Asked.{HasMembers, asks_in, asks_look_in}
use Rattle.audit_call_rows.proofs.Told.{any_found, asked_told, passes}
use Rattle.audit_told_calls.specs.Once.{OneEach}
use Rattle.audit_told_calls.specs.Looked.{asked_look}

same_filter : {X : Type 0} (p q : X → Bool) → ((x : X) → p x ≡ q x) → (xs : List X) → filter p xs ≡ filter q xs
same_filter p q same [] = refl
same_filter p q same (x ∷ xs) = ap (λ b. cond b (x ∷ filter p xs) (filter p xs)) (same x) ∙ ap (λ ys. cond (q x) (x ∷ ys) ys) (same_filter p q same xs)

none_few : (ts : List Epoch) → length (filter (λ (t : Epoch). false) ts) ≤ 1
none_few [] = omega arith
none_few (t ∷ ts) = none_few ts

pub few_homes : (p : Past) (home : Option EpochId) → OneEach p → length (filter (λ (t : Epoch). is_in home t.id) p.epochs) ≤ 1
few_homes p None each = none_few p.epochs
few_homes p (Some e) each = subst (λ ts. length ts ≤ 1) (same_filter (is_epoch e) (λ (t : Epoch). same_epoch e t.id) (λ t. epoch_turned t.id e) p.epochs) (each.epochs e)

pub members_told : (p : Past) (k : CallSoFar) (members : Option Members) → OneEach p → members ≡ option_map (λ (t : Epoch). t.members) (find (is_home k.epoch) p.epochs) → HasMembers p k members
members_told p k members each e = record { are = e; once = few_homes p k.epoch each }

-- what the call asks by its members
pub asked_of : (c : Config) (p : Past) (k : CallSoFar) (members : Option Members) → OneEach p → members ≡ option_map (λ (t : Epoch). t.members) (find (is_home k.epoch) p.epochs) → (answers : List Answer) → asks_in c members k answers ≡ asks_after c p k answers
asked_of c p k members each e answers = sym (asked_told c p k members (members_told p k members each e) answers)

pub asked_of_home : (c : Config) (p : Past) (k : CallSoFar) (members : Option Members) (home : Option EpochId) → OneEach p → home ≡ k.epoch → members ≡ option_map (λ (t : Epoch). t.members) (find (is_home home) p.epochs) → (answers : List Answer) → asks_in c members k answers ≡ asks_after c p k answers
asked_of_home c p k members home each h e answers = asked_of c p k members each (e ∙ ap (λ g. option_map (λ (t : Epoch). t.members) (find (is_home g) p.epochs)) h) answers

-- what comes of an answer

pub if_ok : {A E : Type 0} {P Q : A → Type 0} (r : Result A E) → IfOk r P → ((a : A) → P a → Q a) → IfOk r Q
if_ok (Ok a) h f = f a h
if_ok (Err e) h f = tt

pub and_both : (x a b : Bool) → true ≡ a → x ≡ b → x ≡ (a && b)
and_both x a b t e = e ∙ ap (λ c. c && b) t

pub and_none : (a b : Bool) → false ≡ a → false ≡ (a && b)
and_none a b f = ap (λ c. c && b) f

-- of the calls of a name one passes exactly where the one that is found does

pub step_found : (p : Past) (id : CallId) (q : CallSoFar → Bool) (o : Option CallSoFar) → OneEach p → o ≡ find (is_id id) p.calls → list_any (λ (k : CallSoFar). is_id id k && q k) p.calls ≡ passes q o
step_found p id q o each e = any_found (is_id id) q p.calls (each.calls id) ∙ ap (passes q) (sym e)

pub asked_found : (which q : CallSoFar → Bool) (calls : List CallSoFar) (o : Option CallSoFar) → length (filter which calls) ≤ 1 → o ≡ find which calls → list_any (λ (k : CallSoFar). which k && q k) calls ≡ passes q o
asked_found which q calls o few e = any_found which q calls few ∙ ap (passes q) (sym e)

-- the same of the calls whose step an operation or a release of this epoch is
pub asked_at : (c : Config) (p : Past) (t : Epoch) (e : EpochId) (which : EpochId → CallSoFar → Bool) (request : Want) (o : Option CallSoFar) → t.id ≡ e → length (filter (which e) p.calls) ≤ 1 → o ≡ find (which e) p.calls → is_asked c p t (which t.id) request ≡ passes (λ (k : CallSoFar). is_in k.epoch e && same_request (asks c p k) request) o
asked_at c p t e which request o same few found =
    ap (λ i. list_any (λ (k : CallSoFar). which i k && (is_in k.epoch i && same_request (asks c p k) request)) p.calls) same
    ∙ asked_found (which e) (λ (k : CallSoFar). is_in k.epoch e && same_request (asks c p k) request) p.calls o few found

-- a look by the members of the call's epoch
pub look_told : (c : Config) (p : Past) (k : CallSoFar) (members : Option Members) (home : Option EpochId) (request : ℕ) (f : FileId) (w : What) → OneEach p → home ≡ k.epoch → members ≡ option_map (λ (t : Epoch). t.members) (find (is_home home) p.epochs) → asks_look_in c members request f w k ≡ asked_look c p request f w k
look_told c p k members home request f w each h e =
    ap (λ v. nat_lt 0 request && (nat_le (length k.answers) request && (nat_le request (length k.answers + 1) && same_request v (want.Look f w)))) (asked_of_home c p k members home each h e (take (request - 1) k.answers))
