-- The pieces of a stream, and that it does not matter how it was cut.
use Rattle.std.proofs.Common.{◌≡◌, ℕ, zero, suc, ◌≤◌, true, false, List, [], ◌∷◌, ◌++◌, length, Result, Ok, Err, refl, sym, ap, subst, ◌∙◌, append_assoc, arith}
use Rattle.std.specs.Prelude.{map}
use Rattle.std.proofs.lemmas.List.{append-nil}
use Rattle.dts_base.specs.declared.wire.Refused.{Refused}
use Rattle.pdu_fields.specs.declared.pdu.Pdu.{Pdu}
use Rattle.rpc_feed.specs.Pieces.{Front, partial, whole, wrong, front, Pieces, beginning, pieces_within, pieces}
use Rattle.rpc_feed.specs.Feeding.{fed, left_of, after_next}
use Rattle.rpc_feed.specs.Calls.{Call, feeds, asks, joined, feed_after, new_answers, next_answers, answers, refusal_in, all_answers, answers_left}
use Rattle.rpc_feed.proofs.Fronts.{Settled, grown, front_grows, shorter}

-- pieces that go on alike behind the first PDU are the same
beginning_same : (f : Front) (b : List ℕ) (p q : List ℕ → Pieces) → ((v : Pdu) (behind : List ℕ) → f ≡ whole v behind → p behind ≡ q behind) → beginning f b p ≡ beginning f b q
beginning_same partial b p q same = refl
beginning_same (whole v behind) b p q same = ap (λ (others : Pieces). record { pdus = v ∷ others.pdus; left = others.left }) (same v behind refl)
beginning_same (wrong refused) b p q same = refl

nothing : (most : ℕ) → pieces_within most [] ≡ record { pdus = []; left = Ok [] }
nothing zero = refl
nothing (suc most) = refl

-- enough steps give the same pieces
steps : (n m : ℕ) (b : List ℕ) → length b ≤ n → length b ≤ m → pieces_within n b ≡ pieces_within m b
steps n m [] left right = nothing n ∙ sym (nothing m)
steps zero m (x ∷ b) left right = absurd (omega (arith, left))
steps (suc n) zero (x ∷ b) left right = absurd (omega (arith, right))
steps (suc n) (suc m) (x ∷ b) left right =
    beginning_same (front (x ∷ b)) (x ∷ b) (pieces_within n) (pieces_within m)
    (λ v behind is. let short = shorter (x ∷ b) v behind is in steps n m behind (omega (arith, short, left)) (omega (arith, short, right)))

pub pieces_begin : (b : List ℕ) → pieces b ≡ beginning (front b) b pieces
pieces_begin b =
    steps (length b) (suc (length b)) b (omega arith) (omega arith)
    ∙ beginning_same (front b) b (pieces_within (length b)) pieces
    (λ v behind is. let short = shorter b v behind is in steps (length b) (length behind) behind (omega (arith, short)) (omega arith))

-- all answers that the pieces are
answers_of : Pieces → List (Result Pdu Refused)
answers_of p = map Ok p.pdus ++ refusal_in p.left

-- what a feed answers from there on, where these octets follow
answers_with : Result (List ℕ) Refused → List ℕ → List (Result Pdu Refused)
answers_with (Ok b) more = all_answers (b ++ more)
answers_with (Err refused) more = []

begin_whole : (b : List ℕ) (v : Pdu) (behind : List ℕ) → front b ≡ whole v behind → all_answers b ≡ Ok v ∷ all_answers behind
unfolding answers_of
begin_whole b v behind is = ap answers_of (pieces_begin b ∙ ap (λ (f : Front). beginning f b pieces) is)

begin_wrong : (b : List ℕ) (refused : Refused) → front b ≡ wrong refused → all_answers b ≡ Err refused ∷ []
unfolding answers_of
begin_wrong b refused is = ap answers_of (pieces_begin b ∙ ap (λ (f : Front). beginning f b pieces) is)

-- the first answer, and those behind it
first_answer : (b more : List ℕ) (f : Front) → front b ≡ f → all_answers (b ++ more) ≡ new_answers f ++ answers_with (left_of f b) more
unfolding answers_with Settled grown
first_answer b more partial is = refl
first_answer b more (whole v behind) is =
    begin_whole (b ++ more) v (behind ++ more) (front_grows b more (subst Settled (sym is) tt) ∙ ap (λ (f : Front). grown f more) is)
first_answer b more (wrong refused) is =
    begin_wrong (b ++ more) refused (front_grows b more (subst Settled (sym is) tt) ∙ ap (λ (f : Front). grown f more) is)

next_answer : (feed : Result (List ℕ) Refused) (more : List ℕ) → answers_with feed more ≡ next_answers feed ++ answers_with (after_next feed) more
unfolding answers_with
next_answer (Ok b) more = first_answer b more (front b) refl
next_answer (Err refused) more = refl

fed_answers : (feed : Result (List ℕ) Refused) (piece more : List ℕ) → answers_with (fed feed piece) more ≡ answers_with feed (piece ++ more)
unfolding answers_with
fed_answers (Ok b) piece more = ap all_answers (append_assoc b piece more)
fed_answers (Err refused) piece more = refl

none_follow : (feed : Result (List ℕ) Refused) → answers_left feed ≡ answers_with feed []
unfolding answers_with
none_follow (Ok b) = ap all_answers (sym (append-nil b))
none_follow (Err refused) = refl

along : (calls : List Call) (feed : Result (List ℕ) Refused) → answers feed calls ++ answers_left (feed_after feed calls) ≡ answers_with feed (joined calls)
along [] feed = none_follow feed
along (feeds piece true ∷ calls) feed = along calls (fed feed piece) ∙ fed_answers feed piece (joined calls)
along (feeds piece false ∷ calls) feed = along calls feed
along (asks true ∷ calls) feed =
    append_assoc (next_answers feed) (answers (after_next feed) calls) (answers_left (feed_after (after_next feed) calls))
    ∙ ap (λ (xs : List (Result Pdu Refused)). next_answers feed ++ xs) (along calls (after_next feed))
    ∙ sym (next_answer feed (joined calls))
along (asks false ∷ calls) feed = along calls feed

-- answers that were given and those that can still be given are all answers of the octets that were taken
pub cut_anyhow : (calls : List Call) → answers (Ok []) calls ++ answers_left (feed_after (Ok []) calls) ≡ all_answers (joined calls)
unfolding answers_with
cut_anyhow calls = along calls (Ok [])
