-- What a role sends in an epoch is made by its frame: a property of all such packets holds of all that is sent.
use Rattle.std.proofs.Common.{ℕ, Bool, true, false, cond, List, [], ◌∷◌, ◌++◌, map, Option, Some, None}
use Rattle.std.specs.List.{flat_map}
use Rattle.wire_messages.specs.declared.packet.Packet.{Packet}
use Rattle.wire_messages.specs.declared.body.Body.{Body}
use Rattle.role_steps.specs.Own.{Every}
use Rattle.role_steps.specs.Views.{Frame, Outcome, packet, to_some, to_sync, sync_site}

-- ---- lists ----

pub every_append : {A : Type 0} (P : A → Type 0) (xs ys : List A) → Every P xs → Every P ys → Every P (xs ++ ys)
every_append P [] ys h g = g
every_append P (x ∷ xs) ys h g = (h.0, every_append P xs ys h.1 g)

pub every_cond : {A : Type 0} (P : A → Type 0) (b : Bool) (xs ys : List A) → Every P xs → Every P ys → Every P (cond b xs ys)
every_cond P true xs ys h g = h
every_cond P false xs ys h g = g

pub every_map : {A B : Type 0} (P : B → Type 0) (g : A → B) (xs : List A) → ((x : A) → P (g x)) → Every P (map g xs)
every_map P g [] h = tt
every_map P g (x ∷ xs) h = (h x, every_map P g xs h)

pub every_flat_map : {A B : Type 0} (P : B → Type 0) (g : A → List B) (xs : List A) → ((x : A) → Every P (g x)) → Every P (flat_map g xs)
every_flat_map P g [] h = tt
every_flat_map P g (x ∷ xs) h = every_append P (g x) (flat_map g xs) (h x) (every_flat_map P g xs h)

-- ---- outcomes ----

-- the property holds of each packet that the frame makes
abbrev pub OfFrame : (Packet → Type 0) → Frame → Type 0
OfFrame P f = (to : ℕ) (b : Body) → P (packet f to b)

-- all that the outcome sends has the property
abbrev pub AllSent : {V : Type 0} → (Packet → Type 0) → Outcome V → Type 0
AllSent P o = Every P o.sent

pub some_sent : (P : Packet → Type 0) (f : Frame) → OfFrame P f → (b : Body) (o : Option ℕ) → Every P (to_some f b o)
some_sent P f h b None = tt
some_sent P f h b (Some to) = (h to b, tt)

pub sync_sent : (P : Packet → Type 0) (f : Frame) → OfFrame P f → (group : ℕ) (b : Body) → Every P (to_sync f group b)
sync_sent P f h group b = some_sent P f h b (sync_site f.config f.members group)
