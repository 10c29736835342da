-- Where the next line of every text that goes on is not that of the bytes, that line is the first faulty one.
use Rattle.std.proofs.Common.{◌≡◌, ℕ, ◌+◌, List, ◌++◌, refl, sym, subst, ◌∙◌, arith}
use Rattle.text_lines.specs.Lines.{line_feeds, IsFirstFaultyLine}
use Rattle.text_lines.proofs.Feeds.{IsTextLine, next_line, spread, whole_line}

-- a line with which a text goes on where bytes go on as `mid` does, and these bytes do not begin with it
pub record NextLine (mid R : List ℕ) : Type 0 where
  pub text : List ℕ
  pub after : List ℕ
  pub more : List ℕ
  pub is_line : IsTextLine text
  pub parts : mid ++ more ≡ text ++ after
  pub apart : (u : List ℕ) → R ≡ text ++ u → ⊥

no_line : (R mid more : List ℕ) → NextLine mid R → R ≡ mid ++ more → line_feeds mid ≡ 1 → ⊥
no_line R mid more n e one =
    let w = whole_line n.text mid n.more n.after n.is_line n.parts one in
    n.apart (w.0 ++ more) (e ∙ spread mid n.text w.0 more w.1)

module _ (Begins BeginsLonger : List ℕ → Type 0) (first : ℕ) (bytes : List ℕ) where
  -- the line after the front F
  pub faulty-here : (F R : List ℕ) → bytes ≡ F ++ R → Begins F → ((mid : List ℕ) → BeginsLonger (F ++ mid) → NextLine mid R) → IsFirstFaultyLine Begins BeginsLonger first (first + line_feeds F) bytes
  faulty-here F R parts begins follows = record {
    front = F;
    rest = R;
    parts = parts;
    number = refl;
    begins = begins;
    ends = λ longer more e feeds g.
        let p = next_line F R longer more (sym parts ∙ e) (omega (arith, feeds)) in
        no_line R p.0 more (follows p.0 (subst BeginsLonger p.1 g)) p.2 p.3;
  }

  -- the same under an equal number
  pub faulty-number : (m n : ℕ) → m ≡ n → IsFirstFaultyLine Begins BeginsLonger first m bytes → IsFirstFaultyLine Begins BeginsLonger first n bytes
  faulty-number m n e fault = subst (λ k. IsFirstFaultyLine Begins BeginsLonger first k bytes) e fault
