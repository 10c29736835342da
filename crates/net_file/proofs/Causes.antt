-- Why a text is refused.
use Rattle.std.proofs.Common.{◌≡◌, ℕ, List, Result, Ok, Err, IfErr, ap, ◌∙◌, sym, subst, inl, inr}
use Rattle.std.proofs.lemmas.Option.{same_Some, none-some}
use Rattle.net_tables.specs.Faults.{Unless}
use Rattle.net_tables.specs.Table.{draft_of, HasKnownVersion}
use Rattle.net_parts.specs.declared.drafts.Draft.{Draft}
use Rattle.net_parts.specs.declared.faults.NetFault.{NetFault}
use Rattle.net_parts.specs.declared.faults.NetFault.TheVariants.{NoMemory, NotToml, Shape, Bound, Twice, Unknown, Ends, Crowd, Shares, Phaseless, Also, Clash, Yields, Walk}
use Rattle.net_parts.specs.Numbers.{Net}
use Rattle.net_parts.specs.FirstFaults.{Refuses}
use Rattle.road_net.specs.FirstFaults.{IsDraftFault}
use Rattle.road_net.specs.Network.{IsNetworkOf}
use Rattle.net_file.specs.NetworkText.{IsDraftText, IsNetworkText, IsCause, HasNoNetwork}
use Rattle.net_file.specs.Reading.{Drafts}

module _ (bytes : List ℕ) where
  -- a text with no draft
  pub IsCause-drafts : (fault : NetFault) → Drafts bytes (Err fault) → IsCause bytes fault
  IsCause-drafts NoMemory h = tt
  IsCause-drafts NotToml h = h
  IsCause-drafts (Shape place) h = h
  IsCause-drafts (Bound place) h = inl h
  IsCause-drafts _ h = absurd h

  -- a text with a draft that stands for no network
  pub IsCause-draft : (draft : Draft) (fault : NetFault) → IsDraftText bytes draft → Refuses fault ((net : Net) → IsNetworkOf draft net → ⊥) → IsDraftFault draft fault → IsCause bytes fault
  IsCause-draft draft NoMemory its h first = tt
  IsCause-draft draft NotToml its h first = absurd h
  IsCause-draft draft (Shape place) its h first = absurd h
  IsCause-draft draft (Bound place) its h first = inr (record { draft = draft; text = its; network = h; first = first })
  IsCause-draft draft _ its h first = record { draft = draft; text = its; network = h; first = first }

  -- what building the draft's network answers
  pub IsCause-built : {T : Type 0} (draft : Draft) (result : Result T NetFault) → IsDraftText bytes draft → IfErr result (λ fault. Refuses fault ((net : Net) → IsNetworkOf draft net → ⊥)) → IfErr result (IsDraftFault draft) → IfErr result (IsCause bytes)
  IsCause-built draft (Ok x) its h first = tt
  IsCause-built draft (Err fault) its h first = IsCause-draft draft fault its h first

  -- a text has at most one draft
  one_draft : (a b : Draft) → IsDraftText bytes a → IsDraftText bytes b → a ≡ b
  one_draft a b first second = same_Some a b (sym first.form ∙ ap draft_of (same_Some first.table second.table (sym first.toml ∙ second.toml)) ∙ second.form)

  -- one that has a draft which stands for no network has none
  none-drafted : (fault : NetFault) → HasNoNetwork bytes fault → (net : Net) → IsNetworkText bytes net → ⊥
  none-drafted fault h net it = h.network net (subst (λ d. IsNetworkOf d net) (one_draft it.draft h.draft it.text h.text) it.network)

  -- a text that is refused with a cause has no network
  pub IsCause-none : (fault : NetFault) → IsCause bytes fault → Unless fault ((net : Net) → IsNetworkText bytes net → ⊥)
  IsCause-none NoMemory h = tt
  IsCause-none NotToml h = λ net it. none-some _ (sym (h it.text.utf8) ∙ it.text.toml)
  IsCause-none (Shape place) h = λ net it. none-some _ (sym h.form ∙ ap draft_of (same_Some h.table it.text.table (sym h.toml ∙ it.text.toml)) ∙ it.text.form)
  IsCause-none (Bound place) h = elim h [
    | inl other ↦ λ net it. other.version (subst HasKnownVersion (same_Some it.text.table other.table (sym it.text.toml ∙ other.toml)) it.text.version)
    | inr drafted ↦ none-drafted (Bound place) drafted
  ]
  IsCause-none (Twice place) h = none-drafted (Twice place) h
  IsCause-none (Unknown place) h = none-drafted (Unknown place) h
  IsCause-none (Ends l) h = none-drafted (Ends l) h
  IsCause-none (Crowd n) h = none-drafted (Crowd n) h
  IsCause-none (Shares l) h = none-drafted (Shares l) h
  IsCause-none (Phaseless l) h = none-drafted (Phaseless l) h
  IsCause-none (Also l) h = none-drafted (Also l) h
  IsCause-none (Clash a b) h = none-drafted (Clash a b) h
  IsCause-none (Yields l) h = none-drafted (Yields l) h
  IsCause-none (Walk l) h = none-drafted (Walk l) h
