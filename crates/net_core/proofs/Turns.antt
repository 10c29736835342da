-- Why a core does no step of a node, and when it may.
use Rattle.std.proofs.Common.{◌≡◌, ◌≢◌, ℕ, ◌<◌, Bool, false, IsTrue, nat_eq, length, get_or, subst, sym, ◌∙◌}
use Rattle.std.proofs.lemmas.Bool.{eq-eqb, eqb-true}
use Rattle.arrivals.specs.Amounts.{Amounts}
use Rattle.intersection_actor.specs.Acting.{Acting}
use Rattle.intersection_actor.specs.declared.records.Want.TheVariants.{Done}
use Rattle.net_parts.specs.Numbers.{Net}
use Rattle.road_net.specs.Network.{IsNetwork}
use Rattle.histories.specs.Histories.{IsLawful}
use Rattle.runs.proofs.Resting.{no_acting}
use Rattle.net_core.specs.Cores.{Course, HasNoTurn, IsOver, IsWanted, MayStep}
use Rattle.net_core.specs.States.{AreGoing, IsPlaying, IsSound, WantsMore}
use Rattle.net_core.specs.declared.parts.Kept.{Kept}
use Rattle.net_core.specs.declared.parts.Parts.{Parts}
use Rattle.net_core.proofs.Standing.{at-any}
use Rattle.net_core.proofs.Wanting.{going-in, going-last, going-over, going-there, is-wanted, wanted-once}

-- what a core stands for
abbrev pub course_of : Net → Amounts → Kept → Bool → Course
course_of net arrivals kept spent = record { net = net; arrivals = arrivals; steps = kept.history.items; spent = spent }

module _ (net : Net) (network : IsNetwork net) (arrivals : Amounts) (p : Parts) (kept : Kept) (spent : Bool) (sound : IsSound net arrivals p kept spent) (fresh : spent ≡ false) where
  going : AreGoing net arrivals kept.history.items kept.plans.items p
  going = (sound.going fresh).going

  pub next-wanted : (n : ℕ) (a : Acting) → n < length net.node_names → a ≡ get_or p.actors.all.items n a → IsWanted net kept.history.items n a.want
  next-wanted n a below is = is-wanted net network arrivals kept.history.items kept.plans.items p going n a below is

  pub over-now : (n : ℕ) → n < length net.node_names → p.round ≡ net.run.rounds → IsOver (course_of net arrivals kept spent) n
  over-now n below last = record { exists = below; fresh = fresh; lawful = going-over net network arrivals kept.history.items kept.plans.items p no_acting going last }

  pub lawful-when : p.round ≡ net.run.rounds → IsLawful net kept.history.items
  lawful-when last = going-over net network arrivals kept.history.items kept.plans.items p no_acting going last

  pub over-when : IsLawful net kept.history.items → p.round ≡ net.run.rounds
  over-when lawful = going-last net network arrivals kept.history.items kept.plans.items p no_acting going lawful

  -- whether as many rounds are done as there are says whether the history is lawful
  pub over-decides : (rounds : ℕ) → rounds ≡ net.run.rounds → (IsTrue (nat_eq p.round rounds) → (spent ≡ false) × IsLawful net kept.history.items) × ((spent ≡ false) × IsLawful net kept.history.items → IsTrue (nat_eq p.round rounds))
  over-decides rounds all = (
    (λ same. (fresh, lawful-when (eqb-true p.round rounds same ∙ all))),
    (λ both. eq-eqb p.round rounds (over-when both.1 ∙ sym all)),
  )

  pub playing-now : p.round ≢ net.run.rounds → IsPlaying net arrivals p kept
  playing-now other = record {
    in_round = going-in net network arrivals kept.history.items kept.plans.items p going other;
    capacity = (sound.going fresh).capacity;
    busy = (sound.going fresh).busy other;
  }

  module _ (n : ℕ) (a : Acting) (below : n < length net.node_names) (is : a ≡ get_or p.actors.all.items n a) where
    pub no-turn : p.round ≢ net.run.rounds → a.want ≡ Done → HasNoTurn (course_of net arrivals kept spent) n
    no-turn other none = record {
      exists = below;
      fresh = fresh;
      unlawful = λ lawful. other (over-when lawful);
      wanted = subst (IsWanted net kept.history.items n) none (next-wanted n a below is);
    }

    pub may-step : a.want ≢ Done → MayStep (course_of net arrivals kept spent) n
    may-step more = record {
      exists = below;
      fresh = fresh;
      want = a.want;
      wanted = next-wanted n a below is;
      some = more;
      only = λ other wanted. wanted-once net kept.history.items n other a.want wanted (next-wanted n a below is);
    }

    pub more-wanted : a.want ≢ Done → WantsMore p n
    more-wanted more d none = more (subst (λ (x : Acting). x.want ≡ Done) (at-any p.actors.all.items n a (going-there net network arrivals kept.history.items kept.plans.items p going n below) is d) none)
