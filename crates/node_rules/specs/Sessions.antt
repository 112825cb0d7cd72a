-- The session with a server, by looking back: its calls, what happened to it, and the octets that came over it.
use Rattle.std.specs.Prelude.{ℕ, suc, Bool, false, ◌==◌, if◌then◌else◌, List, [], ◌∷◌, ◌++◌, drop, count_by, Option, Some, None, option_map}
use Rattle.rpc_session.specs.Client.{ClientHistory, Started, Requested, Took}
use Rattle.rpc_feed.specs.Pieces.{Pieces, pieces}
use Rattle.node_rules.specs.History.{Finding, SessionBegan, RequestSent, PduTaken, OctetsCame, PeerEnded, ConnectionOpened, PduServed, Found}

-- a call of a server: a bind or a request
abbrev pub is_call : ℕ → Finding → Bool
is_call peer (SessionBegan other first) = other == peer
is_call peer (RequestSent other operation stub) = other == peer
is_call peer _ = false

-- how many calls a server was sent. The k-th one has the call identifier k, over all of its sessions
abbrev pub calls_to : ℕ → List Found → ℕ
calls_to peer found = count_by (λ f. is_call peer f.finding) found

-- the session behind a finding, where this was the one before it
abbrev pub session_with : ℕ → Finding → Option ClientHistory → Option ClientHistory
session_with peer (SessionBegan other first) before = if other == peer then Some (Started first) else before
session_with peer (RequestSent other operation stub) before =
    if other == peer then option_map (λ session. Requested session operation stub) before else before
session_with peer (PduTaken other p answer) before = if other == peer then option_map (λ session. Took session p answer) before else before
session_with peer (PeerEnded other) before = if other == peer then None else before
session_with peer _ before = before

-- the session with a server: from its last bind on, unless it ended since
unfoldable pub session_of : ℕ → List Found → Option ClientHistory
session_of peer [] = None
session_of peer (f ∷ older) = session_with peer f.finding (session_of peer older)

-- ---- the octets of a session, and of a connection in the same way
abbrev pub octets_with : ℕ → Finding → List ℕ → List ℕ
octets_with peer (SessionBegan other first) before = if other == peer then [] else before
octets_with peer (ConnectionOpened other) before = if other == peer then [] else before
octets_with peer (OctetsCame other octets) before = if other == peer then before ++ octets else before
octets_with peer _ before = before

-- the octets that came from a peer since its session began or its connection opened
unfoldable pub octets_from : ℕ → List Found → List ℕ
octets_from peer [] = []
octets_from peer (f ∷ older) = octets_with peer f.finding (octets_from peer older)

abbrev pub taken_with : ℕ → Finding → ℕ → ℕ
taken_with peer (SessionBegan other first) before = if other == peer then 0 else before
taken_with peer (ConnectionOpened other) before = if other == peer then 0 else before
taken_with peer (PduTaken other p answer) before = if other == peer then suc before else before
taken_with peer (PduServed other p answer) before = if other == peer then suc before else before
taken_with peer _ before = before

-- how many of its PDUs were taken since then
unfoldable pub taken_from : ℕ → List Found → ℕ
taken_from peer [] = 0
taken_from peer (f ∷ older) = taken_with peer f.finding (taken_from peer older)

-- what came from a peer and was not taken yet: the PDUs behind those that were, and the octets that are no PDU yet, or a refusal
abbrev pub arrived_from : ℕ → List Found → Pieces
arrived_from peer found = let all = pieces (octets_from peer found) in
    record { pdus = drop (taken_from peer found) all.pdus; left = all.left }
