-- A form gives fields one line at most, fails in one way at most, and not both.
use Rattle.std.proofs.Common.{◌≡◌, inl, inr, ℕ, List, [], ◌∷◌, sym, ap, ◌∙◌, subst, arith}
use Rattle.dts_capture.specs.declared.line.Line.{Line}
use Rattle.line_reader.specs.Fields.{column_of}
use Rattle.dts_capture.specs.Grammar.{Form, Ends, Field, Choice, NoWord, FromHere, Served, Makes, Fails, Fault}
use Rattle.dts_capture.proofs.KindLaws.{reads_unique, right_is_not_wrong, one_wrong}

pub makes_one : (form : Form) (fields : List (List ℕ)) (l m : Line) → Makes form fields l → Makes form fields m → l ≡ m
makes_one (Ends said) [] l m h k = h ∙ sym k
makes_one (Ends said) (field ∷ fields) l m h k = absurd h
makes_one (Field kind more) [] l m h k = absurd h
makes_one (Field kind more) (field ∷ fields) l m (v, r, h) (w, s, k) =
    makes_one (more v) fields l m h (subst (λ x. Makes (more x) fields m) (reads_unique kind field w v s r) k)
makes_one (Choice word chosen other) [] l m h k = absurd h
makes_one (Choice word chosen other) (field ∷ fields) l m (inl h) (inl k) = makes_one chosen fields l m h.1 k.1
makes_one (Choice word chosen other) (field ∷ fields) l m (inl h) (inr k) = absurd (k.0 h.0)
makes_one (Choice word chosen other) (field ∷ fields) l m (inr h) (inl k) = absurd (h.0 k.0)
makes_one (Choice word chosen other) (field ∷ fields) l m (inr h) (inr k) = makes_one other (field ∷ fields) l m h.1 k.1
makes_one (NoWord empty unknown) fields l m h k = absurd h
makes_one (FromHere form) fields l m h k = makes_one form fields l m h k
makes_one (Served peer form) fields l m h k = makes_one form fields l m h.1 k.1

pub makes_or_fails : (form : Form) (line : List ℕ) (word : ℕ) (fields : List (List ℕ)) (l : Line) (fault : Fault) → Makes form fields l → Fails form line word fields fault → ⊥
makes_or_fails (Ends said) line word [] l fault h k = k
makes_or_fails (Ends said) line word (field ∷ fields) l fault h k = h
makes_or_fails (Field kind more) line word [] l fault h k = h
makes_or_fails (Field kind more) line word (field ∷ fields) l fault (v, r, h) (inl (why, wrong, is)) = right_is_not_wrong kind field v why r wrong
makes_or_fails (Field kind more) line word (field ∷ fields) l fault (v, r, h) (inr (w, s, k)) =
    makes_or_fails (more v) line word fields l fault h (subst (λ x. Fails (more x) line word fields fault) (reads_unique kind field w v s r) k)
makes_or_fails (Choice text chosen other) line word [] l fault h k = h
makes_or_fails (Choice text chosen other) line word (field ∷ fields) l fault (inl h) (inl k) = makes_or_fails chosen line word fields l fault h.1 k.1
makes_or_fails (Choice text chosen other) line word (field ∷ fields) l fault (inl h) (inr k) = k.0 h.0
makes_or_fails (Choice text chosen other) line word (field ∷ fields) l fault (inr h) (inl k) = h.0 k.0
makes_or_fails (Choice text chosen other) line word (field ∷ fields) l fault (inr h) (inr k) = makes_or_fails other line word (field ∷ fields) l fault h.1 k.1
makes_or_fails (NoWord empty unknown) line word fields l fault h k = h
makes_or_fails (FromHere form) line word fields l fault h k = makes_or_fails form line (column_of line fields) fields l fault h k
makes_or_fails (Served peer form) line word fields l fault h (inl k) = omega (arith, h.0, k.0)
makes_or_fails (Served peer form) line word fields l fault h (inr k) = makes_or_fails form line word fields l fault h.1 k.1

pub fails_one : (form : Form) (line : List ℕ) (word : ℕ) (fields : List (List ℕ)) (fault other_fault : Fault) → Fails form line word fields fault → Fails form line word fields other_fault → fault ≡ other_fault
fails_one (Ends said) line word [] f g h k = absurd h
fails_one (Ends said) line word (field ∷ fields) f g h k = h ∙ sym k
fails_one (Field kind more) line word [] f g h k = h ∙ sym k
fails_one (Field kind more) line word (field ∷ fields) f g (inl (why, wrong, is)) (inl (because, also, this)) =
    is ∙ ap (λ w. record { column = column_of line (field ∷ fields); why = w }) (one_wrong kind field why because wrong also) ∙ sym this
fails_one (Field kind more) line word (field ∷ fields) f g (inl (why, wrong, is)) (inr (v, r, k)) = absurd (right_is_not_wrong kind field v why r wrong)
fails_one (Field kind more) line word (field ∷ fields) f g (inr (v, r, h)) (inl (why, wrong, is)) = absurd (right_is_not_wrong kind field v why r wrong)
fails_one (Field kind more) line word (field ∷ fields) f g (inr (v, r, h)) (inr (w, s, k)) =
    fails_one (more v) line word fields f g h (subst (λ x. Fails (more x) line word fields g) (reads_unique kind field w v s r) k)
fails_one (Choice text chosen other) line word [] f g h k = h ∙ sym k
fails_one (Choice text chosen other) line word (field ∷ fields) f g (inl h) (inl k) = fails_one chosen line word fields f g h.1 k.1
fails_one (Choice text chosen other) line word (field ∷ fields) f g (inl h) (inr k) = absurd (k.0 h.0)
fails_one (Choice text chosen other) line word (field ∷ fields) f g (inr h) (inl k) = absurd (h.0 k.0)
fails_one (Choice text chosen other) line word (field ∷ fields) f g (inr h) (inr k) = fails_one other line word (field ∷ fields) f g h.1 k.1
fails_one (NoWord empty unknown) line word [] f g h k = h ∙ sym k
fails_one (NoWord empty unknown) line word (field ∷ fields) f g h k = h ∙ sym k
fails_one (FromHere form) line word fields f g h k = fails_one form line (column_of line fields) fields f g h k
fails_one (Served peer form) line word fields f g (inl h) (inl k) = h.1 ∙ sym k.1
fails_one (Served peer form) line word fields f g (inl h) (inr k) = absurd (omega (arith, h.0, k.0))
fails_one (Served peer form) line word fields f g (inr h) (inl k) = absurd (omega (arith, h.0, k.0))
fails_one (Served peer form) line word fields f g (inr h) (inr k) = fails_one form line word fields f g h.1 k.1
