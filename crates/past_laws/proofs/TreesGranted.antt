-- The grants of an epoch, by both formulations.
use Rattle.std.proofs.Common.{◌≡◌, ℕ, false, cond, ◌++◌, [], ◌∷◌, reverse, Option, refl, sym, ap, ◌∙◌}
use Rattle.std.proofs.lemmas.List.{reverse-append}
use Rattle.locus_ids.specs.declared.config.Config.{Config}
use Rattle.locus_ids.specs.declared.ids.CallId.{CallId}
use Rattle.locus_ids.specs.declared.ids.EpochId.{EpochId}
use Rattle.locus_ids.specs.declared.ids.FileId.{FileId}
use Rattle.locus_ids.specs.declared.ids.Mode.{Mode}
use Rattle.locus_ids.specs.declared.ids.Serial.{Serial}
use Rattle.locus_ids.specs.declared.ids.Stamp.{Stamp}
use Rattle.trace_book.specs.Same.{same_epoch}
use Rattle.trace_book.specs.declared.record.Record.{Record}
use Rattle.trace_book.specs.declared.record.Record.TheVariants as says
use Rattle.tree_model.specs.declared.instance.Granted.{Granted}
use Rattle.tree_model.specs.Folds.{Trace}
use Rattle.tree_model.specs.Histories.{history}
use Rattle.tree_model.specs.State.{TreeState}
use Rattle.tree_model.specs.Tree.{tree_of, next, granted, grant_of}
use Rattle.promises.specs.of_lawful_trace.Lawful.{MayCome}
use Rattle.promises.specs.Past.{Past, Epoch, epoch_at}
use Rattle.promises.specs.After.{after, process_of, opened_as}
use Rattle.past_laws.specs.Agreement.{Agrees}
use Rattle.past_laws.proofs.TreesAt.{at_own, at_other, by_epoch}
use Rattle.past_laws.proofs.TreesFormed.{formed_joined, is_own, is_other, process_is}
use Rattle.past_laws.proofs.TreesKept.{IsBlind, IsBlindTree, stays}

abbrev pub GrantedAfter : Config → Record → Trace → Past → EpochId → ℕ → Type 0
GrantedAfter c r before p e group = reverse (epoch_at (after c r p) e).granted ≡ (next (history c before) r (tree_of c e group before)).grants

still : (c : Config) (r : Record) (before : Trace) (p : Past) → Agrees c before p → (e : EpochId) (group : ℕ) → IsBlind (λ (t : Epoch). reverse t.granted) r → IsBlindTree (λ (t : TreeState). t.grants) r → GrantedAfter c r before p e group
still c r before p k e group blind other = stays (λ (t : Epoch). reverse t.granted) (λ (t : TreeState). t.grants) c r before p e group blind other (k.trees.granted e group)

-- what a grant of the value fixes
abbrev pub grant_by : Past → CallId → Serial → Mode → FileId → ℕ → Granted
grant_by p id i m f ss = record { inst = i; call = id; process = process_of p id; mode = m; file = f; ss = ss }

pub grant_is : (c : Config) (before : Trace) (p : Past) → Agrees c before p → (e : EpochId) (group : ℕ) (id : CallId) (i : Serial) (m : Mode) (f : FileId) (ss : ℕ) → grant_by p id i m f ss ≡ grant_of (tree_of c e group before) id i m f ss
grant_is c before p k e group id i m f ss = ap (λ n. record { inst = i; call = id; process = n; mode = m; file = f; ss = ss }) (process_is c before p k.calls e group id)

granted_grant : (c : Config) (before : Trace) (p : Past) (a : EpochId) (id : CallId) (n : ℕ) (i : Serial) (m : Mode) (f : FileId) (stamp : Option Stamp) (ss : ℕ) → MayCome c before (says.Grant a id n i m f stamp ss) → Agrees c before p → (e : EpochId) (group : ℕ) → GrantedAfter c (says.Grant a id n i m f stamp ss) before p e group
granted_grant c before p a id n i m f stamp ss may k e group = by_epoch (λ x. GrantedAfter c (says.Grant a id n i m f stamp ss) before p x group) a e own other
  where
    g : Granted
    g = grant_by p id i m f ss

    new : Epoch → Epoch
    new t = record t { granted = g ∷ t.granted; opened = t.opened ++ opened_as p g stamp ∷ [] }

    t : EpochId → TreeState
    t x = tree_of c x group before

    own : GrantedAfter c (says.Grant a id n i m f stamp ss) before p a group
    own = ap (λ (u : Epoch). reverse u.granted) (at_own new (λ u. refl) p a (formed_joined c before p k.epochs ss a may.there))
        ∙ (reverse-append (g ∷ []) (epoch_at p a).granted
        ∙ (ap (λ gs. gs ++ g ∷ []) (k.trees.granted a group)
        ∙ (ap (λ x. (t a).grants ++ x ∷ []) (grant_is c before p k a group id i m f ss)
        ∙ sym (ap (λ b. (cond b (granted (history c before) (grant_of (t a) id i m f ss) stamp (t a)) (t a)).grants) (is_own c a group before)))))

    other : same_epoch e a ≡ false → GrantedAfter c (says.Grant a id n i m f stamp ss) before p e group
    other h = ap (λ (u : Epoch). reverse u.granted) (at_other new (λ u. refl) p a e h)
        ∙ (k.trees.granted e group
        ∙ sym (ap (λ b. (cond b (granted (history c before) (grant_of (t e) id i m f ss) stamp (t e)) (t e)).grants) (is_other c a e group before h)))

pub granted_step : (c : Config) (r : Record) (before : Trace) (p : Past) → MayCome c before r → Agrees c before p → (e : EpochId) (group : ℕ) → GrantedAfter c r before p e group
granted_step c (says.Up s b) before p may k e group = still c (says.Up s b) before p k e group tt (λ t ns. refl)
granted_step c (says.Stopped s w) before p may k e group = still c (says.Stopped s w) before p k e group (λ t ls. refl) (λ t ns. refl)
granted_step c (says.Leave s a) before p may k e group = still c (says.Leave s a) before p k e group (λ t ls. refl) (λ t ns. refl)
granted_step c (says.Join s a m) before p may k e group = still c (says.Join s a m) before p k e group (λ t m. refl, λ t js vs. refl) (λ t ns. refl, λ t m ns cs bs. refl)
granted_step c (says.Start a g bs) before p may k e group = still c (says.Start a g bs) before p k e group (λ t gs. refl) (λ t. refl)
granted_step c (says.Accept s q id words) before p may k e group = still c (says.Accept s q id words) before p k e group (λ t w. refl) (λ t cs. refl)
granted_step c (says.Look a id n f w result) before p may k e group = still c (says.Look a id n f w result) before p k e group tt tt
granted_step c (says.Grant a id n i m f stamp ss) before p may k e group = granted_grant c before p a id n i m f stamp ss may k e group
granted_step c (says.Refuse a id n i m f why) before p may k e group = still c (says.Refuse a id n i m f why) before p k e group (λ t ms. refl) (λ t ms. refl)
granted_step c (says.Act a i n o result) before p may k e group = still c (says.Act a i n o result) before p k e group (λ t xs ms. refl) (λ t xs ms. refl)
granted_step c (says.Commit f s stamp ps content) before p may k e group = still c (says.Commit f s stamp ps content) before p k e group (λ t xs. refl) (λ t cs xs. refl)
granted_step c (says.Release a i f stamp) before p may k e group = still c (says.Release a i f stamp) before p k e group (λ t vs xs ms. refl) (λ t vs xs ms. refl)
granted_step c (says.Adopt f s stamp) before p may k e group = still c (says.Adopt f s stamp) before p k e group tt (λ t cs. refl)
granted_step c (says.Answer s q id r) before p may k e group = still c (says.Answer s q id r) before p k e group (λ t w fs. refl) tt
granted_step c (says.Packet n from to kind) before p may k e group = still c (says.Packet n from to kind) before p k e group tt tt
granted_step c says.Void before p may k e group = still c says.Void before p k e group tt tt
granted_step c says.Budget before p may k e group = still c says.Budget before p k e group tt tt
