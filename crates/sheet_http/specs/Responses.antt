-- Responses: the head, and the bodies of refusals.
use Rattle.std.specs.Prelude.{ℕ, ◌==◌, List, [], ◌∷◌, ◌++◌, length, codes, Bool, true, false, if◌then◌else◌, Option, Some, None, is_some, unwrap_or}
use Rattle.std.specs.Fmt.{decimal}
use Rattle.sheet_http.specs.declared.refusal.HttpRefusal.{HttpRefusal}
use Rattle.sheet_http.specs.declared.refusal.HttpRefusal.TheVariants.{NotHttp, HeadTooLong, BadHost, NoRoute, NotPost, Coded, NoLength, BadLength, BodyTooLong}

-- the code of a refusal
abbrev pub refusal_code : HttpRefusal → ℕ
refusal_code (NotHttp n) = 400
refusal_code HeadTooLong = 431
refusal_code BadHost = 400
refusal_code NoRoute = 404
refusal_code NotPost = 405
refusal_code Coded = 501
refusal_code NoLength = 411
refusal_code BadLength = 400
refusal_code BodyTooLong = 413

-- the body that names an error
abbrev error : List ℕ → List ℕ
error word = codes "{\"error\":\"" ++ word ++ codes "\"}"

-- the body of a refusal
abbrev pub refusal_body : HttpRefusal → List ℕ
refusal_body (NotHttp n) = codes "{\"error\":\"not http\",\"offset\":" ++ decimal n ++ codes "}"
refusal_body HeadTooLong = error (codes "head too long")
refusal_body BadHost = error (codes "bad host")
refusal_body NoRoute = error (codes "no route")
refusal_body NotPost = error (codes "not post")
refusal_body Coded = error (codes "transfer encoding")
refusal_body NoLength = error (codes "no length")
refusal_body BadLength = error (codes "bad length")
refusal_body BodyTooLong = codes "{\"error\":\"body too long\",\"limit\":65536}"

-- the phrase of each code that is answered
abbrev pub phrase : ℕ → Option (List ℕ)
phrase code =
    if code == 200 then Some (codes "OK") else (
    if code == 400 then Some (codes "Bad Request") else (
    if code == 403 then Some (codes "Forbidden") else (
    if code == 404 then Some (codes "Not Found") else (
    if code == 405 then Some (codes "Method Not Allowed") else (
    if code == 409 then Some (codes "Conflict") else (
    if code == 411 then Some (codes "Length Required") else (
    if code == 413 then Some (codes "Payload Too Large") else (
    if code == 422 then Some (codes "Unprocessable Entity") else (
    if code == 431 then Some (codes "Request Header Fields Too Large") else (
    if code == 501 then Some (codes "Not Implemented") else (
    if code == 503 then Some (codes "Service Unavailable") else (
    if code == 507 then Some (codes "Insufficient Storage") else (
    None)))))))))))))

-- whether a code is one that is answered
abbrev pub is_answered : ℕ → Bool
is_answered code = is_some (phrase code)

-- a line ends in CR and LF
abbrev pub line : List ℕ → List ℕ
line text = text ++ 13 ∷ 10 ∷ []

-- a line that may be left out
abbrev pub line_if : Bool → List ℕ → List ℕ
line_if true text = line text
line_if false text = []

-- the line that begins a response
abbrev pub status_line : ℕ → List ℕ
status_line code = line (codes "HTTP/1.1 " ++ decimal code ++ codes " " ++ unwrap_or (phrase code) [])

-- the head of a response: its code, the length of its body, whether POST is named as allowed, and whether the connection ends
abbrev pub head : ℕ → ℕ → Bool → Bool → List ℕ
head code n allow close =
    status_line code ++ line (codes "Content-Type: application/json") ++ line (codes "Content-Length: " ++ decimal n)
    ++ line_if allow (codes "Allow: POST") ++ line_if close (codes "Connection: close") ++ line []

-- a response with its body
abbrev pub response : ℕ → List ℕ → Bool → List ℕ
response code body close = head code (length body) false close ++ body

-- whether the method was refused, so that POST is named
abbrev pub is_not_post : HttpRefusal → Bool
is_not_post NotPost = true
is_not_post e = false

-- a refusal closes the connection; for the method HEAD its body isn't sent
abbrev pub refusal_response : HttpRefusal → Bool → List ℕ
refusal_response e true = head (refusal_code e) (length (refusal_body e)) (is_not_post e) true
refusal_response e false = head (refusal_code e) (length (refusal_body e)) (is_not_post e) true ++ refusal_body e
