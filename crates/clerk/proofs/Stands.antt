-- The queries of a round stay few and sound.
use Rattle.std.proofs.Common.{◌≡◌, ap, ◌∙◌, arith, ℕ, ◌≤◌, Bool, true, false, cond, ◌==◌, List, map, length, All}
use Rattle.std.proofs.lemmas.List.Elements.{All-map, All-same, All-weaker}
use Rattle.std.proofs.lemmas.List.{length-map}
use Rattle.clerk.specs.declared.query.Query.{Query}
use Rattle.clerk.specs.declared.query.QueryState.{QueryState}
use Rattle.clerk.specs.declared.query.QueryState.TheVariants as state
use Rattle.clerk.specs.Queries.{pending, standing}
use Rattle.clerk.specs.Standing.{IsSound}

pub begun_sound : (latest : ℕ) (peers : List ℕ) (queries : List Query) → queries ≡ map pending peers → All (λ q. IsSound latest q.state) queries
begun_sound latest peers queries are =
    All-same (λ q. IsSound latest q.state) queries (map pending peers) are (All-map (λ q. IsSound latest q.state) pending peers (λ k d in'. tt))

standing_sound : (latest peer : ℕ) (state : QueryState) (q : Query) → IsSound latest state → IsSound latest q.state → IsSound latest (standing peer state q).state
standing_sound latest peer state q new old = go (q.peer == peer)
  where
    go : (b : Bool) → IsSound latest (cond b (record q { state = state }) q).state
    go true = new
    go false = old

pub stood_sound : (latest peer : ℕ) (state : QueryState) (old queries : List Query) → IsSound latest state → queries ≡ map (standing peer state) old
    → All (λ q. IsSound latest q.state) old → All (λ q. IsSound latest q.state) queries
stood_sound latest peer state old queries sound are all =
    All-same (λ q. IsSound latest q.state) queries (map (standing peer state) old) are
    (All-map (λ q. IsSound latest q.state) (standing peer state) old
    (All-weaker (λ q. IsSound latest q.state) (λ q. IsSound latest (standing peer state q).state) (λ q is. standing_sound latest peer state q sound is) old all))

pub stood_length : (peer : ℕ) (state : QueryState) (old queries : List Query) → queries ≡ map (standing peer state) old → length queries ≡ length old
stood_length peer state old queries are = ap length are ∙ length-map old (standing peer state)

-- what was got by one oscillator reading was got by a later one
pub sound_later : (earlier later : ℕ) → earlier ≤ later → (s : QueryState) → IsSound earlier s → IsSound later s
sound_later earlier later before state.Pending sound = tt
sound_later earlier later before (state.Asked osc) sound = tt
sound_later earlier later before (state.Answered asked got i) sound = (sound.0, sound.1, omega (arith, sound.2, before))
sound_later earlier later before state.Gone sound = tt

pub all_sound_later : (earlier later : ℕ) (queries : List Query) → earlier ≤ later → All (λ q. IsSound earlier q.state) queries → All (λ q. IsSound later q.state) queries
all_sound_later earlier later queries before = All-weaker (λ q. IsSound earlier q.state) (λ q. IsSound later q.state) (λ q. sound_later earlier later before q.state) queries
