-- In reading order: the drawn numbers, the places of the ranking and what an order takes, the trial, the orders' rules, the claims.
pub mod Generator
pub mod Orders
pub mod Trial
pub mod Rules
pub mod Claims
