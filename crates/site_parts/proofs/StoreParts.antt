-- What comes to the storage site.
use Rattle.std.proofs.Common.{◌≡◌, ℕ, List, refl, sym, subst}
use Rattle.std.specs.Prelude.{None, Result, Ok, Err, OnOk}
use Rattle.locus_ids.specs.declared.ids.FileId.{FileId}
use Rattle.locus_ids.specs.declared.ids.Kind.{Kind}
use Rattle.locus_ids.specs.declared.ids.Mode.{Mode}
use Rattle.locus_ids.specs.declared.ids.Serial.{Serial}
use Rattle.locus_ids.specs.declared.ids.Stamp.{Stamp}
use Rattle.locus_ids.specs.declared.sites.Sites.{Sites}
use Rattle.trace_book.specs.declared.operation.Op.{Op}
use Rattle.trace_book.specs.declared.operation.What.{What}
use Rattle.wire_messages.specs.Outboxes.{Outgoing}
use Rattle.wire_messages.specs.declared.body.Body.{Body}
use Rattle.wire_messages.specs.declared.body.Body.TheVariants as body
use Rattle.role_steps.specs.OperationEffects.{Mending}
use Rattle.role_steps.specs.Operations.{on_read_held}
use Rattle.role_steps.specs.Views.{Frame, Store, Outcome, quiet}
use Rattle.role_steps.proofs.HeldReads.{held_read_so}
use Rattle.storage_site.specs.of_store_instances.Stores.{Gives as StoreGives}
use Rattle.storage_site.proofs.of_store_instances.Latest.{nothing_more}
use Rattle.site_parts.specs.Roles.{store_take}

-- nothing happens to the store
pub store_stays : (o : Outcome Store) (s : Store) (a : Outgoing) → o ≡ quiet s → StoreGives o s a a
store_stays o s a e = subst (λ (q : Outcome Store). StoreGives q s a a) (sym e) (record { view = refl; packets = nothing_more a.packets; records = nothing_more a.records })

-- the same outcome is given
pub given_as : {T F : Type 0} (r : Result T F) (o p : Outcome Store) (now : Store) (a b : Outgoing) → o ≡ p → OnOk r (StoreGives o now a b) → OnOk r (StoreGives p now a b)
given_as (Ok x) o p now a b e g = subst (λ (q : Outcome Store). StoreGives q now a b) e g
given_as (Err f) o p now a b e g = tt

-- what isn't for the storage site
pub others_quiet : (f : Frame) (m : Serial → Mending) (from : ℕ) (b : Body) (s : Store)
    → ((inst : Serial) (file : FileId) (mode : Mode) (set : Sites) (kind : Kind) (base : Stamp) (vector : List ℕ) (parents : List Stamp) → b ≡ body.OpenSs inst file mode set kind base vector parents → ⊥)
    → ((serial n : ℕ) (o : Op) (seen : List ℕ) → b ≡ body.Op serial n o seen → ⊥) → ((serial : ℕ) → b ≡ body.Close serial → ⊥) → ((inst : Serial) → b ≡ body.ClosedOk inst → ⊥)
    → ((us call process request take : ℕ) (file : FileId) (what : What) (serve : Stamp) → b ≡ body.LookSs us call process request take file what serve → ⊥) → ((file : FileId) (stamp : Stamp) (page : ℕ) → b ≡ body.Pull file stamp page → ⊥)
    → ((serial n at len : ℕ) → b ≡ body.ReadHeld serial n at len → ⊥) → ((file : FileId) (wanted own : Stamp) → b ≡ body.Want file wanted own → ⊥)
    → store_take f m from b s ≡ quiet s
others_quiet f m from (body.OpenSs inst file mode set kind base vector parents) s h i j k l n r w = absurd (h inst file mode set kind base vector parents refl)
others_quiet f m from (body.Op serial number o seen) s h i j k l n r w = absurd (i serial number o seen refl)
others_quiet f m from (body.Close serial) s h i j k l n r w = absurd (j serial refl)
others_quiet f m from (body.ClosedOk inst) s h i j k l n r w = absurd (k inst refl)
others_quiet f m from (body.LookSs us call process request take file what serve) s h i j k l n r w = absurd (l us call process request take file what serve refl)
others_quiet f m from (body.Pull file stamp page) s h i j k l n r w = absurd (n file stamp page refl)
others_quiet f m from (body.ReadHeld serial number at len) s h i j k l n r w = absurd (r serial number at len refl)
others_quiet f m from (body.Want file wanted own) s h i j k l n r w = absurd (w file wanted own refl)
others_quiet f m from _ s h i j k l n r w = refl

-- a read whose asker has the bytes writes nothing
pub held_unwritten : (f : Frame) (inst : Serial) (n at len : ℕ) (s : Store) → (on_read_held f inst n at len s).written ≡ None
held_unwritten f inst n at len s =
    (held_read_so (λ p. Unit {0}) (λ t. Unit {0}) (λ w. w ≡ None) f (record { full = λ to serial m r. tt; held = λ to serial m k. tt; told = λ i m o r. tt; unwritten = refl }) inst n at len s).2
