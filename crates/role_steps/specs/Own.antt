-- What a site sends is its own.
use Rattle.std.specs.Prelude.{ℕ, ◌≡◌, List, [], ◌∷◌}
use Rattle.wire_messages.specs.declared.packet.Packet.{Packet}
use Rattle.role_steps.specs.Views.{SiteView, Outcome}

-- every element has the property
abbrev pub Every : {A : Type 0} → (A → Type 0) → List A → Type 0
Every P [] = Unit {0}
Every P (x ∷ xs) = P x × Every P xs

-- the packet is of this boot of this site
pub record IsOwn (me boot : ℕ) (p : Packet) : Type 0 where
  pub site : p.from ≡ me
  pub number : p.from_boot ≡ boot

-- an outcome that keeps the boot number, and sends packets of this boot alone
pub record Sends (me boot : ℕ) (o : Outcome SiteView) : Type 0 where
  pub view : o.view.boot ≡ boot
  pub sent : Every (IsOwn me boot) o.sent
