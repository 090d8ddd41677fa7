-- What a call asks by a past is what it asks by the members of its epoch; and a step of a call of a name is one of the call found.
use Rattle.std.proofs.Common.{◌≡◌, ℕ, ◌==◌, ◌≤◌, Bool, true, false, not, ◌&&◌, ◌||◌, cond, List, [], ◌∷◌, length, filter, Option, Some, None, refl, sym, ap, ◌∙◌}
use Rattle.std.specs.Prelude.{nat_lt}
use Rattle.std.specs.List.{find, list_any}
use Rattle.std.specs.Option.{option_map}
use Rattle.row_lists.proofs.ByPlace.{first_alone}
use Rattle.locus_ids.specs.declared.config.Config.{Config}
use Rattle.locus_ids.specs.declared.sites.Members.{Members}
use Rattle.call_rules.specs.declared.answer.Answer.{Answer}
use Rattle.call_rules.specs.declared.want.Want.{Want}
use Rattle.call_rules.specs.declared.want.Want.TheVariants.{Look, Open, OpenToMend, Make, Do, Close, Give, Never}
use Rattle.call_rules.specs.Scripts.{in_group, named_wants, where_packed}
use Rattle.tree_model.specs.Epochs.{is_in}
use Rattle.promises.specs.Past.{Past, CallSoFar, Epoch, Instance, acts, asks_after, ends, is_packed, sync_of}
use Rattle.promises.specs.After.{is_id}
use Rattle.trace_book.specs.Same.{same_call}
use Rattle.locus_ids.specs.declared.ids.EpochId.{EpochId}
use Rattle.audit_calls.specs.Uses.{closes, uses_as}
use Rattle.audit_call_rows.specs.Asked.{HasMembers, asks_in, is_packed_in}

-- where two tests of groups agree, a request is sent by both or by none
pub same_where : (p q : ℕ → Bool) → ((group : ℕ) → p group ≡ q group) → (w : Want) → where_packed p w ≡ where_packed q w
same_where p q same (Look file what) = ap (λ b. cond b (Look file what) (in_group (λ g. false) 0 (Look file what))) (same file.group)
same_where p q same (Open file how) = ap (λ b. cond b (Open file how) (in_group (λ g. false) 0 (Open file how))) (same file.group)
same_where p q same (OpenToMend file) = ap (λ b. cond b (OpenToMend file) (in_group (λ g. false) 0 (OpenToMend file))) (same file.group)
same_where p q same (Make group kind sites) = ap (λ b. cond b (Make group kind sites) (in_group (λ g. false) 0 (Make group kind sites))) (same group)
same_where p q same (Do i o) = refl
same_where p q same (Close i) = refl
same_where p q same (Give r) = refl
same_where p q same Never = refl

-- the call that an operation or a release is a step of, by whether a descriptor has named the instance

same_find : {X : Type 0} (p q : X → Bool) → ((x : X) → p x ≡ q x) → (xs : List X) → find p xs ≡ find q xs
same_find p q same [] = refl
same_find p q same (x ∷ xs) = ap (λ b. cond b (Some x) (find p xs)) (same x) ∙ ap (λ o. cond (q x) (Some x) o) (same_find p q same xs)

pub user_acts : (e : EpochId) (x : Instance) (n : ℕ) (ks : List CallSoFar) → (x.named && not (x.again && (n == 1))) ≡ true → find (uses_as e x.grant.inst n) ks ≡ find (acts e x n) ks
user_acts e x n ks t = same_find (uses_as e x.grant.inst n) (acts e x n) (λ k. ap (λ b. cond b (uses_as e x.grant.inst n k) (same_call k.id x.grant.call)) (sym t)) ks

pub caller_acts : (e : EpochId) (x : Instance) (n : ℕ) (ks : List CallSoFar) → (x.named && not (x.again && (n == 1))) ≡ false → find (is_id x.grant.call) ks ≡ find (acts e x n) ks
caller_acts e x n ks t = same_find (is_id x.grant.call) (acts e x n) (λ k. ap (λ b. cond b (uses_as e x.grant.inst n k) (same_call k.id x.grant.call)) (sym t)) ks

pub closer_ends : (e : EpochId) (x : Instance) (ks : List CallSoFar) → x.named ≡ true → find (closes e x.grant.inst) ks ≡ find (ends e x) ks
closer_ends e x ks t = same_find (closes e x.grant.inst) (ends e x) (λ k. ap (λ b. cond b (closes e x.grant.inst k) (same_call k.id x.grant.call)) (sym t)) ks

pub caller_ends : (e : EpochId) (x : Instance) (ks : List CallSoFar) → x.named ≡ false → find (is_id x.grant.call) ks ≡ find (ends e x) ks
caller_ends e x ks t = same_find (is_id x.grant.call) (ends e x) (λ k. ap (λ b. cond b (closes e x.grant.inst k) (same_call k.id x.grant.call)) (sym t)) ks

-- what passes of a row that may be missing
abbrev pub passes : {X : Type 0} → (X → Bool) → Option X → Bool
passes q None = false
passes q (Some x) = q x

none_both : {X : Type 0} (p q : X → Bool) (xs : List X) → list_any p xs ≡ false → list_any (λ x. p x && q x) xs ≡ false
none_both p q [] h = refl
none_both {X} p q (x ∷ xs) h = at (p x) (none_both p q xs) h
  where
    at : (b : Bool) → (list_any p xs ≡ false → list_any (λ y. p y && q y) xs ≡ false) → (b || list_any p xs) ≡ false → ((b && q x) || list_any (λ y. p y && q y) xs) ≡ false
    at true rest f = absurd (cc)
    at false rest f = rest f

-- of one at most that passes, one passes both exactly where the one that is found does
pub any_found : {X : Type 0} (p q : X → Bool) (xs : List X) → length (filter p xs) ≤ 1 → list_any (λ x. p x && q x) xs ≡ passes q (find p xs)
any_found p q [] few = refl
any_found {X} p q (x ∷ xs) few = at (p x) refl (any_found p q xs) few
  where
    end : (b : Bool) → (b || false) ≡ b
    end true = refl
    end false = refl

    here : p x ≡ true → list_any (λ y. p y && q y) xs ≡ false
    here t = none_both p q xs (first_alone p x xs t few)

    at : (b : Bool) → p x ≡ b → (length (filter p xs) ≤ 1 → list_any (λ y. p y && q y) xs ≡ passes q (find p xs)) → length (cond b (x ∷ filter p xs) (filter p xs)) ≤ 1 → ((b && q x) || list_any (λ y. p y && q y) xs) ≡ passes q (cond b (Some x) (find p xs))
    at true t rest f = ap (λ b. q x || b) (here t) ∙ end (q x)
    at false t rest f = rest f

packed_told : (c : Config) (group : ℕ) (o : Option Epoch) → passes (λ (t : Epoch). nat_lt 0 (length (sync_of c t group))) o ≡ is_packed_in c (option_map (λ (t : Epoch). t.members) o) group
packed_told c group None = refl
packed_told c group (Some t) = refl

pub packed_by_members : (c : Config) (p : Past) (k : CallSoFar) (members : Option Members) → HasMembers p k members → (group : ℕ) → is_packed c p k group ≡ is_packed_in c members group
packed_by_members c p k members h group =
    any_found (λ (t : Epoch). is_in k.epoch t.id) (λ (t : Epoch). nat_lt 0 (length (sync_of c t group))) p.epochs h.once
    ∙ (packed_told c group (find (λ (t : Epoch). is_in k.epoch t.id) p.epochs) ∙ ap (λ m. is_packed_in c m group) (sym h.are))

pub asked_told : (c : Config) (p : Past) (k : CallSoFar) (members : Option Members) → HasMembers p k members → (answers : List Answer) → asks_after c p k answers ≡ asks_in c members k answers
asked_told c p k members h answers = same_where (is_packed c p k) (is_packed_in c members) (packed_by_members c p k members h) (named_wants c.mounts k.free k.words k.begins answers)
